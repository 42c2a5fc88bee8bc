-- What reading and checking the files comes to.
pub mod Filed
pub mod Opened
