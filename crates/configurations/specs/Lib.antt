-- What the tests on a zone's list say, and the laws of a list after an entry.
pub mod Entering
pub mod AnyKind
