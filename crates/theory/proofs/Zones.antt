-- One zone. First what moves keep in any kind: the places, the robots, that none stands twice; reachability is an equivalence.
pub mod Hall
pub mod Clique
pub mod Ring
pub mod Kinds
pub mod Configurations
pub mod Crossing
