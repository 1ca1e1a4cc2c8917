pub mod Making
pub mod Tallies
