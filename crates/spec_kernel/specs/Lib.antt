pub mod Conditions
pub mod Sizes
pub mod Records
pub mod Places
pub mod Channels
pub mod Free
pub mod Runner
pub mod Truth
