pub mod Named
pub mod Refusals
pub mod Numbers
