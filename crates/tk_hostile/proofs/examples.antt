pub mod Replied
pub mod Attacked
