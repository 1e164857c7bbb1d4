pub mod Certificates
pub mod Judgement
pub mod Laws
pub mod Inner
