pub mod Merging
pub mod Restoring
