pub mod OneWaiting
