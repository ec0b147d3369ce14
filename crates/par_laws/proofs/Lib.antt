pub mod WalkedLaws
pub mod NumberLaws
pub mod PhaseLaws
pub mod OneHistory
pub mod SessionSteps
pub mod NamedLaws
pub mod PartLaws
pub mod BrokenLaws
