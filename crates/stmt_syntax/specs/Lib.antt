pub mod Heads
pub mod Limits
pub mod Proper
pub mod Written
