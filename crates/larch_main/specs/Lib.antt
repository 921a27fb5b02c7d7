pub mod Derive
pub mod Generate
pub mod Questions
pub mod Replay
pub mod Running
