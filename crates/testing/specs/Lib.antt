-- A step's tests on the lists of zones, and how the lists stand for a state.
pub mod Fault
pub mod Testing
pub mod Held
pub mod Steps
pub mod OnMap
