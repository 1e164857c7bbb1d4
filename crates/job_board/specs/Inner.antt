pub mod FoundLines
pub mod Reading
