pub mod Levels
pub mod Past
