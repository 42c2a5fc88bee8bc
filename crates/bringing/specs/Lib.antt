-- The moves of a zone to its goals, by the map's tables.
pub mod Zones
