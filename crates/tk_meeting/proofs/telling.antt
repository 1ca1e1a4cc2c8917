pub mod Rising
pub mod Ways
pub mod Growing
pub mod Foreseeing
