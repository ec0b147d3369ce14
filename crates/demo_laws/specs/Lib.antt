pub mod Acts
pub mod Statements
pub mod ActLaws
pub mod Histories
pub mod Turns
pub mod ReadLaws
