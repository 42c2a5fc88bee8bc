-- What ties the writing of rounds to the written meanings.
pub mod Rounds
