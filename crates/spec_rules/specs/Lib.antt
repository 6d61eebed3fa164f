pub mod Rules
pub mod Tests
