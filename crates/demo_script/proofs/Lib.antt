mod PlaceLaws
mod RowLaws
pub mod TextLaws
