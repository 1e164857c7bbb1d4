pub mod Matches
pub mod Outcomes
pub mod Laws
pub mod Within
pub mod WithinLaws
