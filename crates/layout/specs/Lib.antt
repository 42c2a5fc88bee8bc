-- The whole map: what comes after the zones, and what callers have of a map that was read.
pub mod Kinds
pub mod Rest
pub mod Map
pub mod Accepted
pub mod Lists
pub mod View
