pub mod Cells
pub mod KeptSummaries
pub mod Groups
pub mod TakenRows
pub mod Room
pub mod Written
