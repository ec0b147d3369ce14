pub mod FirstLines
pub mod Passing
pub mod Adding
pub mod Extents
pub mod NameLaws
pub mod PhaseLaws
pub mod SortedLaws
pub mod Numbering
