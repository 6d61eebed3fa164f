pub mod Lists
pub mod Counts
pub mod Maps
pub mod Orders
pub mod Queues
pub mod Tables
