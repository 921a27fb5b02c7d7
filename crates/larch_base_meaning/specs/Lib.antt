pub mod Steps
pub mod Word
