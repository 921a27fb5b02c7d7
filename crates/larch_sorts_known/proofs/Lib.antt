-- Lemmas.
pub mod InTurn
