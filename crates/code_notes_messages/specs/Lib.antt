pub mod Filed
