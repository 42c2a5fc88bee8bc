-- What the services give the listing, and the listing of Yard A.
pub mod Longer
pub mod Listed
pub mod Yard
