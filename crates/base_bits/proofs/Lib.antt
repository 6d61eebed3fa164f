pub mod Digits
pub mod Members
pub mod Laws
pub mod Matches
