pub mod Packets
pub mod Lines
pub mod Marks
pub mod Frames
pub mod Laws
