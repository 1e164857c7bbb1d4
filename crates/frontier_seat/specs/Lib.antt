pub mod Growths
pub mod Orders
pub mod Inner
