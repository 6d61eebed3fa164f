pub mod LawsOfFlags
