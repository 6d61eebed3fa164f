pub mod Images
pub mod OnImages
pub mod Promises
pub mod ForC
pub mod Runs
