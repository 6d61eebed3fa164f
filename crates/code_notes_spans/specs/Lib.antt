pub mod Spans
pub mod Meant
