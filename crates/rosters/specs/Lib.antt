-- The laws of lists of robots in lent bytes.
pub mod Lists
pub mod Finding
pub mod Members
