pub mod Answers
pub mod Events
pub mod Refusals
pub mod Replies
pub mod Spans
pub mod Summaries
pub mod Writing
