-- Lemmas.
pub mod Helps
pub mod Records
pub mod Wanted
