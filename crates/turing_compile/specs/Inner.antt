pub mod Listed
pub mod Members
pub mod Rows
pub mod Upward
