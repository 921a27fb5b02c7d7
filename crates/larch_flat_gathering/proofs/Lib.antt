-- Lemmas.
pub mod Growing
pub mod Kept
pub mod Leaving
