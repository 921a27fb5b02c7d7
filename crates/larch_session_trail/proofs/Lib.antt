-- Lemmas.
pub mod Exchange
pub mod States
