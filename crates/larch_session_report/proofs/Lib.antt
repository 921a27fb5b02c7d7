-- Lemmas.
pub mod Redone
pub mod Right
pub mod Strays
