pub mod LawsOfTime
