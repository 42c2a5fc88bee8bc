-- The Internet checksum: the laws behind the functions' proofs.
pub mod Sum
pub mod Within
