-- Definitions that only private functions cite.
pub mod Prepared
pub mod Wins
pub mod Sharing
pub mod Rounds
