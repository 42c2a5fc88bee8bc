-- What is read, and the refusals of a map.
pub mod Chain
pub mod Fault
pub mod Bytes
pub mod Heads
pub mod Table
pub mod Vertices
pub mod Zones
pub mod Reading
pub mod Found
