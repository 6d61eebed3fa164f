pub mod Codec
pub mod EntriesRead
pub mod Fitted
pub mod RowTurns
