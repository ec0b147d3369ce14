pub mod Replies
pub mod Outputs
pub mod Workers
pub mod Crews
pub mod Ends
pub mod Laws
