pub mod Counts
pub mod InARow
