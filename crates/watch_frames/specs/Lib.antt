pub mod Extensions
pub mod Frames
pub mod Laws
pub mod Inner
pub mod Watched
pub mod Watchers
pub mod FrameText
