pub mod PolicyRules
pub mod Judging
mod WideNumbers
mod FirstDue
pub mod TokenLaws
pub mod CleanTexts
pub mod DueTexts
pub mod RunLaws
pub mod TurnLaws
pub mod AddLaws
pub mod OtherLines
pub mod ActorLaws
pub mod FewLaws
pub mod DueLaws
pub mod PlaceLaws
pub mod AloneLaws
pub mod TickLines
pub mod QueueLaws
pub mod CutLaws
