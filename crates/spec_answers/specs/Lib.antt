pub mod Steps
pub mod Logs
pub mod Runs
pub mod Promises
pub mod Samples
pub mod FlagSamples
