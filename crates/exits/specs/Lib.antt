-- What the functions of this crate say.
pub mod Leaving
pub mod Goals
pub mod AnyKind
