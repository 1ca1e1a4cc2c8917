pub mod Boards
pub mod Members
