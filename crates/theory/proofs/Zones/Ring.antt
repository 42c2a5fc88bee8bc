-- Rings: places in a circle.
pub mod Push
pub mod Leaving
pub mod Pushes
pub mod Entering
pub mod Ending
pub mod TurnLoop
