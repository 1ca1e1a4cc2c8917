pub mod SameFrames
pub mod Unsaid
pub mod SameStreams
pub mod Outlines
pub mod SameOutlines
pub mod LookAlike
pub mod Pacing
