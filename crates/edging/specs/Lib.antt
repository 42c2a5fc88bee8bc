-- What is read of the edges.
pub mod Edges
