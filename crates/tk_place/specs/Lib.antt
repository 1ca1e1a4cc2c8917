pub mod Chain
pub mod Pairs
pub mod Place
pub mod Queue
pub mod Scratch
pub mod Search
pub mod Table
pub mod Views
