pub mod LawsOfLists
pub mod LawsOfHomes
pub mod LawsOfBlocking
pub mod LawsOfDestroying
pub mod LawsOfThreads
pub mod LawsOfWaking
