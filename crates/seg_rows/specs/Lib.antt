pub mod Hulls
pub mod Lives
pub mod Versions
