pub mod Pieces
pub mod Takings
pub mod Bits
pub mod Heads
pub mod Passings
pub mod MarkLaws
pub mod Offers
