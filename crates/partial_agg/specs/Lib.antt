pub mod Ends
pub mod Groups
pub mod KeyLists
pub mod Summaries
