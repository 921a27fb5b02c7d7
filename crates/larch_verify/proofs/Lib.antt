pub mod Ends
pub mod Kept
pub mod Names
pub mod Opened
pub mod Taken
