pub mod ScheduleLaws
pub mod TurnLaws
pub mod LineLaws
pub mod DueLaws
pub mod ToldLaws
pub mod BadLineLaws
pub mod NextPhase
pub mod Offers
