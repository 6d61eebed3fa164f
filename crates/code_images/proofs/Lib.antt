pub mod StoredParts
pub mod ImageWritten
pub mod ImageRead
