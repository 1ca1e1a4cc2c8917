pub mod Lasting
pub mod Sayable
pub mod Listing
pub mod Finding
pub mod Scripts
