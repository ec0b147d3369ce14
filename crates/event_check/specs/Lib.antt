pub mod Checks
pub mod Windows
pub mod Outputs
