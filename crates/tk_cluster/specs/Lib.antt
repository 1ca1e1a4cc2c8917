pub mod Sets
pub mod Refusals
pub mod Many
pub mod Passes
pub mod Tellings
pub mod Clusters
pub mod Closings
