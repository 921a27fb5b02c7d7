-- Lemmas.
pub mod Found
pub mod Having
pub mod NamesTold
