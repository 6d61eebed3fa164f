pub mod LawsOfRegions
