pub mod Following
pub mod LineEnds
pub mod LineLaws
pub mod Reading
pub mod Skipping
pub mod Within
pub mod Writing
