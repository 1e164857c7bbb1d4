pub mod Searched
pub mod Ring
pub mod LeastOfBoth
pub mod Held
pub mod Listed
