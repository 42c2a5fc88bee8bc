-- Proofs about the definitions of specs/.
pub mod Follow
