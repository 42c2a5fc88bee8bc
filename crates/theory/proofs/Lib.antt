-- The theorems that rest on what the must-fail edits change: an edit reads as one where only files of proofs/ rest on its text.
pub mod Zones
pub mod Codec
pub mod Maps
pub mod Plans
pub mod Services
pub mod Terms
