pub mod ActLaws
pub mod FileLaws
pub mod Images
pub mod PickLaws
pub mod Replays
pub mod Told
