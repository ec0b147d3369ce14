pub mod Lines
pub mod Replies
pub mod Laws
pub mod Replay
pub mod ReplayLaws
