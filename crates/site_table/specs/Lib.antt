pub mod Words
pub mod Views
pub mod Rule
pub mod Plays
pub mod Seats
pub mod Laws
pub mod Inner
