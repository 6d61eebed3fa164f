pub mod Calls
pub mod Kinds
