pub mod Saved
pub mod Reading
pub mod Sound
pub mod Finding
pub mod Refusals
pub mod Writing
pub mod Restored
pub mod Laws
