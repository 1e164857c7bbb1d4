pub mod Bits
pub mod Listings
pub mod Checks
pub mod Looks
pub mod Ordered
