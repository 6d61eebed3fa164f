pub mod Told
pub mod Groups
