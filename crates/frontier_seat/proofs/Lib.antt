pub mod Filling
pub mod Looked
pub mod Listing
pub mod Ordering
pub mod ClosedRows
pub mod Logged
pub mod Candidates
mod Scouts
