pub mod OneOutcome
pub mod Rests
pub mod Within
