pub mod Pictures
pub mod Inner
