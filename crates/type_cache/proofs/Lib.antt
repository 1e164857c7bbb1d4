pub mod Sums
pub mod Keeping
pub mod Settling
pub mod SideNumbers
