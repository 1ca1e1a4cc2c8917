pub mod Content
pub mod InMemory
pub mod Tapped
