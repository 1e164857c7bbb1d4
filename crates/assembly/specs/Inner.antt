pub mod Filling
pub mod GridCells
pub mod Packing
