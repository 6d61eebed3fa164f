pub mod OfRecords
