pub mod Refreshes
pub mod Laws
