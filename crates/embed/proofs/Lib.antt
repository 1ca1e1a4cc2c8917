pub mod ServerLaws
pub mod TurnLaws
pub mod ReadLaws
pub mod FaultLaws
