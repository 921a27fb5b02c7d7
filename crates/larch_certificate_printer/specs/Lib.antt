pub mod Number
pub mod Pending
