-- Lemmas.
pub mod Longest
pub mod Moving
