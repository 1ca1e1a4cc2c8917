pub mod Prefixes
pub mod Ranges
pub mod Ends
pub mod Changes
pub mod Found
pub mod Offers
