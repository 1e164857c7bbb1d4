pub mod ReplayAnswers
pub mod Legalities
pub mod Inner
