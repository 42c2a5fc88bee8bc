-- Block files: the meanings that the functions' contracts cite (Kind, Payload), and the laws behind their proofs.
pub mod Kind
pub mod Payload
