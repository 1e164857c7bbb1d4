pub mod Firsts
pub mod SideSets
pub mod Judgement
pub mod Growths
pub mod Judged
pub mod Laws
pub mod Inner
