-- Halls and stacks: places in a line, each joined to the next.
pub mod Leaving
pub mod Entering
