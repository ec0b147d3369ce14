pub mod Blocks
pub mod Foldings
pub mod Gathering
pub mod Grouping
pub mod Laws
pub mod Merging
pub mod Spans
