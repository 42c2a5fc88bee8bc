-- What the listing program prints, and what ties the code of its lines to that.
pub mod Text
pub mod Listing
pub mod Lines
