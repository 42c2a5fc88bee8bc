-- The check of a file: the meanings that the functions' contracts cite, and the laws behind their proofs.
pub mod Block
pub mod Checked
