pub mod ByKind
pub mod AtCalls
pub mod RulesKept
pub mod LawsKept
