-- Lemmas.
pub mod CodedLists
pub mod Deepest
