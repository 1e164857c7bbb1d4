pub mod Plain
pub mod SoFar
