pub mod Again
pub mod Turns
pub mod Sections
