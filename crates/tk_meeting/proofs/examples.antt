pub mod Orders
pub mod Liars
pub mod Restarts
pub mod Lives
