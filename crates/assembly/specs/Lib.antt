pub mod Cells
pub mod Grids
pub mod Laws
pub mod Logs
pub mod Rows
pub mod Inner
