pub mod Kinds
pub mod Tables
pub mod SoFar
pub mod Marks
