pub mod Fault
pub mod Placing
