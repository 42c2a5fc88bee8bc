-- Answers: the meanings that the functions' contracts cite (Delivered), and the laws behind their proofs.
pub mod Made
pub mod Sealed
pub mod Delivered
