-- Lemmas.
pub mod Items
pub mod Labels
pub mod Writing
