pub mod Bounds
pub mod EndLaws
pub mod GroupLaws
pub mod Joined
