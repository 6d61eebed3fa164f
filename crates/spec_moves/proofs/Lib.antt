pub mod Firsts
pub mod Joins
pub mod Rejoined
pub mod Posts
pub mod Threads
