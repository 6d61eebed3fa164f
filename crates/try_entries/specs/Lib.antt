pub mod Copies
pub mod Returned
pub mod Tallies
pub mod Entries
