mod Values
pub mod PieceTexts
mod Trailing
mod ReadingBack
pub mod AsciiLaws
pub mod Lines
mod Objects
mod Apart
mod Sequel
mod EscapeLaws
mod SendingLists
mod SendingParts
