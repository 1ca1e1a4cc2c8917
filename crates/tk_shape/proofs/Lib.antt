pub mod Between
pub mod Differing
pub mod InRange
pub mod NoneBroken
pub mod Offers
pub mod OneShape
pub mod Vectors
pub mod examples
