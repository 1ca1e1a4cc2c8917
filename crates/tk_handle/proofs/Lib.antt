pub mod KeyBytes
pub mod Joined
pub mod Offers
pub mod Below
