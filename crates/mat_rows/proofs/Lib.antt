pub mod PlaceLaws
pub mod ReplaceLaws
