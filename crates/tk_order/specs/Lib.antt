pub mod Legality
pub mod Rules
pub mod Seats
pub mod Stores
pub mod Smallest
