pub mod NameLaws
pub mod TargetLaws
pub mod TurnLaws
