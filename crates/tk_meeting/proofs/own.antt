pub mod Words
pub mod Reading
pub mod Clients
pub mod Acts
pub mod Steps
pub mod Openings
pub mod Meetings
pub mod Keys
