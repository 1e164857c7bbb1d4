pub mod Rows
pub mod Legends
