-- The whole map: what an accepted map and placing say, and states.
pub mod CliqueSize
