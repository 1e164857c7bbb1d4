-- Definitions that only private functions cite.
pub mod Listings
pub mod Looks
pub mod Fillings
pub mod Logs
pub mod Types
pub mod Pickers
pub mod Insides
