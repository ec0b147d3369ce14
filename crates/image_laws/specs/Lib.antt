pub mod Alike
pub mod Images
pub mod Ends
