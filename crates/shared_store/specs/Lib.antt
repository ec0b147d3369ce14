pub mod Histories
pub mod Wrapped
pub mod Stores
pub mod Making
pub mod Turns
pub mod Desks
