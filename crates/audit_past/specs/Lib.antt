pub mod Pasts
pub mod ReplaySteps
