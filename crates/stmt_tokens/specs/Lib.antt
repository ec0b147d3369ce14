pub mod Bytes
pub mod Lines
pub mod Scan
pub mod Streams
pub mod Tokens
pub mod Words
