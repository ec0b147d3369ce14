pub mod Codes
pub mod Spelling
pub mod Formed
pub mod Growing
pub mod Reading
pub mod Decoding
pub mod Laws
pub mod Blocks
