pub mod Inner
pub mod Portions
