pub mod Conditions
pub mod Counts
pub mod Faults
pub mod Names
pub mod Rows
pub mod Values
