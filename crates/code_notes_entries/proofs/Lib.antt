pub mod Entries
pub mod EntryTurns
pub mod RowFields
pub mod Fits
pub mod Mapped
pub mod Typed
