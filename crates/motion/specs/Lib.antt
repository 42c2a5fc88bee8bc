-- What the functions of this crate do, and the laws that their callers use.
pub mod States
pub mod Alone
pub mod World
pub mod Across
pub mod Coupling
pub mod Tables
pub mod Compared
