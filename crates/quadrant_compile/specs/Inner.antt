pub mod Keywords
pub mod Listed
pub mod Tables
pub mod SoFar
pub mod Held
pub mod Members
pub mod Borders
