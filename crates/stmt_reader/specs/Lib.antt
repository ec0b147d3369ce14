pub mod Answers
pub mod Cursor
pub mod Forward
pub mod Grammar
pub mod Reading
pub mod Refusals
pub mod Texts
