pub mod Demos
pub mod Runs
pub mod Sums
