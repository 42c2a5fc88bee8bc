-- What a plan comes to.
pub mod Planned
