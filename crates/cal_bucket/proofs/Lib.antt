pub mod CalendarLaws
mod CycleLaws
mod MonthLaws
pub mod BucketLaws
mod PlaceLaws
mod MoveLaws
mod ShapeLaws
mod NameLaws
pub mod RowLaws
mod JiffLaws
mod WidthLaws
