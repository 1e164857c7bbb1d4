pub mod Searches
pub mod OpenSites
