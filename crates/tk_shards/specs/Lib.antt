pub mod Division
pub mod Ranged
pub mod Packing
pub mod Parts
pub mod Shards
pub mod Laws
