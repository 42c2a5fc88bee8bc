-- Block files: what is written is read back, and what is read was written so.
pub mod ReadBack
pub mod Written
