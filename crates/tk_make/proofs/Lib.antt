pub mod Ranges
pub mod ByTurns
pub mod MadeShape
pub mod SoundLaws
pub mod TallyLaws
