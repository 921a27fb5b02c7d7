pub mod Examples
pub mod Needed
pub mod Reached
pub mod Trimmed
