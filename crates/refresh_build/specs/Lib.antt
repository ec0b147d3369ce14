pub mod Fitting
pub mod Jobs
