pub mod Slots
pub mod Outcomes
