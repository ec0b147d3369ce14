pub mod AfterLaws
pub mod GoesOnLaws
pub mod TurnLaws
pub mod DeskLaws
pub mod StoreLaws
