pub mod Alone
pub mod Each
pub mod Numbers
pub mod Seen
pub mod Twice
