pub mod Applies
pub mod FlagPends
pub mod LawsOfValues
pub mod TableOrder
pub mod Waiters
