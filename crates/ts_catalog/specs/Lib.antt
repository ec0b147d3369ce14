pub mod Columns
pub mod Relations
