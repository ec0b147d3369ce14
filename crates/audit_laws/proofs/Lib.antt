pub mod ShiftLaws
pub mod PlainLaws
pub mod RunLaws
