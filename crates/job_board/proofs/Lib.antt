pub mod OneBatch
pub mod Outcomes
pub mod Printed
pub mod Reading
pub mod Steps
pub mod Told
