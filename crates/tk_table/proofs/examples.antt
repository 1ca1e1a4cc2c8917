pub mod Displaced
