-- A zone's configuration kept as the list of its robots: first what is kept and what a crossing does to it, then that this is right.
pub mod Orders
pub mod Packed
pub mod Lengths
pub mod Putting
pub mod Leaving
pub mod Entering
pub mod Tests
