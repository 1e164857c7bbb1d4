pub mod Cells
pub mod Bits
pub mod Listed
pub mod Growing
pub mod Counting
pub mod Limits
pub mod Reading
pub mod Grids
