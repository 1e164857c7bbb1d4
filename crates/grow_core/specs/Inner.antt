-- Definitions that only private functions cite.
pub mod Tables
pub mod Entries
