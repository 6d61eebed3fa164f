pub mod PulseTurns
