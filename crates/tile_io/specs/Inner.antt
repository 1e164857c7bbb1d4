pub mod AtHand
pub mod Blocks
pub mod Headers
pub mod LineAt
pub mod Stops
pub mod Stretches
pub mod Turns
