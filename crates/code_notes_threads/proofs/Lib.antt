pub mod ReadThreads
pub mod ThreadEntries
