pub mod Chunks
pub mod Kept
pub mod Levels
pub mod Parts
pub mod SegmentTrees
pub mod Places
pub mod Reach
pub mod Trees
