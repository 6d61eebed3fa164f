pub mod Walks
pub mod Mapped
