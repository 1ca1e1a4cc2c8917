pub mod Counting
pub mod Bytes
pub mod Offers
pub mod examples
