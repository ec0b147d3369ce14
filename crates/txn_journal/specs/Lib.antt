pub mod Calls
pub mod Contents
pub mod Frames
pub mod Opening
pub mod Places
pub mod Reading
pub mod Recovering
pub mod Writes
