pub mod LogParts
