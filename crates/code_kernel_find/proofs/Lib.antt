pub mod Lowest
pub mod OfHomes
