-- Lemmas.
pub mod Printing
