pub mod Tiles
pub mod Shown
pub mod Compiled
pub mod Rows
pub mod Laws
pub mod Inner
