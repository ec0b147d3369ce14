pub mod Logs
pub mod JoinedRanges
pub mod Feeding
pub mod Touching
pub mod Lasts
