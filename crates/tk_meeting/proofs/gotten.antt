pub mod Growing
pub mod ByLog
pub mod Telling
pub mod Finding
pub mod Delivering
