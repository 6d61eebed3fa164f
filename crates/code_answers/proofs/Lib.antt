pub mod Numbers
pub mod Recording
pub mod Sections
