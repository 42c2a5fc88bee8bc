-- A refusal as a number and a place.
pub mod Refusals
