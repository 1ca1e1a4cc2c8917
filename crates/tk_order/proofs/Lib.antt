pub mod Offers
pub mod Turns
pub mod Legal
pub mod Moves
pub mod Growing
pub mod Opened
