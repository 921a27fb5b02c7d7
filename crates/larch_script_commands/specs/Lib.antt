pub mod Bare
pub mod Same
pub mod Worded
pub mod Written
