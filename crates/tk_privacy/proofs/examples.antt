pub mod Mirrored
pub mod Counted
