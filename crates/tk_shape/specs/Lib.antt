pub mod Ranges
pub mod Limits
pub mod Numbers
pub mod Lengths
pub mod Differences
pub mod Names
pub mod Lifting
