pub mod Stated
pub mod Tests
pub mod Work
