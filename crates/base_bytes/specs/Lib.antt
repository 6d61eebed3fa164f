pub mod Bytes
pub mod Logs
pub mod Pens
