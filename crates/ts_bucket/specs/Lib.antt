pub mod Bucket
pub mod Spans
pub mod Windows
pub mod WholeSpans
pub mod Ranges
pub mod Positions
pub mod Touches
pub mod Chunks
