-- What the functions of this crate write.
pub mod Laid
