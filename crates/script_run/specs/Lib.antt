pub mod Sessions
pub mod RunStates
pub mod LineEnds
pub mod Runs
pub mod Stops
pub mod Stopped
pub mod Executing
