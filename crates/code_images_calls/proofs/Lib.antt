pub mod OnStates
pub mod Found
