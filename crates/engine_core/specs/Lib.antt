pub mod Values
pub mod Histories
pub mod States
pub mod Effects
pub mod Acts
pub mod Stores
pub mod Timelines
pub mod Ledgers
