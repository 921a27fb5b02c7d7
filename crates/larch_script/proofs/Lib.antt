pub mod Pieces
pub mod Places
pub mod Turns
pub mod Words
