pub mod Lists
pub mod Numbers
mod Views
mod Turning
mod Shares
mod Ends
pub mod Gathering
mod Always
