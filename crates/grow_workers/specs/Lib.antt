pub mod Workers
pub mod Inner
