pub mod ReadyNumbers
pub mod Replays
pub mod Rows
pub mod SideGlues
pub mod Spans
