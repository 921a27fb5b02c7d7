pub mod Generating
pub mod Replaying
pub mod Sessions
pub mod Whole
