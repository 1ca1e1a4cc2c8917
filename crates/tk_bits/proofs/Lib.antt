pub mod Vectors
pub mod Sums
pub mod Wanted
pub mod Seeded
pub mod Joining
pub mod Offers
