pub mod Seats
pub mod Tellings
pub mod Resting
pub mod Journals
