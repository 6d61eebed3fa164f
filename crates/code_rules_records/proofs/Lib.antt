pub mod Answers
pub mod ByOthers
