pub mod Cells
pub mod Contents
pub mod Grids
pub mod Filling
mod Comparing
mod Packing
pub mod Putting
pub mod Rows
mod BoxRows
mod Beside
