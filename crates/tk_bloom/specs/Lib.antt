pub mod Counts
pub mod Filters
pub mod Laws
pub mod Packing
pub mod Queues
pub mod Windows
