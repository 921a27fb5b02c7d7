pub mod Begins
pub mod Located
pub mod Marked
pub mod Prepares
pub mod Reached
pub mod Stages
pub mod Turns
pub mod Waiting
