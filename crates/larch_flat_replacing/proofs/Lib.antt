-- Lemmas.
pub mod Lookups
pub mod Nothing
pub mod Steps
pub mod Terms
