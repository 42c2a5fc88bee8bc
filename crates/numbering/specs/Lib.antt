-- Numbers and what they stand for.
pub mod Kind
