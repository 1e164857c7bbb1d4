pub mod Tiles
pub mod Counters
pub mod Inner
