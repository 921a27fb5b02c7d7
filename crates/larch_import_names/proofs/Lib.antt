-- Lemmas.
pub mod Agreement
pub mod KeptApart
pub mod Naming
pub mod Terms
