pub mod Tests
pub mod Work
