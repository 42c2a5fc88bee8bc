pub mod Bit
pub mod Rows
