pub mod Members
pub mod Shape
pub mod Text
pub mod Ascii
pub mod Reading
pub mod Laws
pub mod Pieces
pub mod Sending
