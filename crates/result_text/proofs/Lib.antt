mod Appending
mod Writing
