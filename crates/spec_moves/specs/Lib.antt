pub mod Moves
pub mod Standing
pub mod States
