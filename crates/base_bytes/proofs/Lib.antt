pub mod Appending
pub mod Numbers
pub mod Turns
pub mod Writing
