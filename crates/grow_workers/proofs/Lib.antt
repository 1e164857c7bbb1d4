pub mod Winning
pub mod Numbering
pub mod Splitting
pub mod Ordering
pub mod Joined
pub mod Whole
pub mod Stages
