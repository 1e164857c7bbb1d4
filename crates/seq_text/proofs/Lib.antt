pub mod Fields
pub mod Fitting
pub mod Growths
pub mod HeldLines
mod Keyword
pub mod NamedTypes
pub mod Printed
pub mod Scratch
pub mod PlainLines
