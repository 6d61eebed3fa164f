pub mod LawsOfEvents
