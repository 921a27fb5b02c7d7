pub mod Evaluating
pub mod Orders
pub mod Owned
pub mod Steps
