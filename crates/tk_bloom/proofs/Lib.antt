pub mod Counting
pub mod Cutting
pub mod Packing
pub mod Showing
pub mod Windowing
pub mod Offers
