pub mod Positions
pub mod Pass
pub mod Made
pub mod Steps
pub mod Rule
pub mod Moments
