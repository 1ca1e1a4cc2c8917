pub mod Faults
pub mod Servers
pub mod Turns
