pub mod CellLaws
pub mod Gathering
pub mod KeptSummaries
pub mod Room
pub mod Shown
pub mod Sorting
pub mod Writing
