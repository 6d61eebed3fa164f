pub mod InSpans
pub mod SpansOfCalls
pub mod Waiters
