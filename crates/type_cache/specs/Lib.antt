pub mod SideSets
pub mod SideBits
pub mod Clean
pub mod Findings
