-- Cliques: any two places are joined.
pub mod Rule
pub mod Entering
pub mod Ending
