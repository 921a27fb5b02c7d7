pub mod Rows
pub mod Truths
pub mod Deduced
pub mod Followed
