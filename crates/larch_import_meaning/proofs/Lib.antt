-- Lemmas.
pub mod Accepted
pub mod Clauses
pub mod Ending
pub mod Fresh
pub mod Lengths
pub mod Moving
pub mod Rows
pub mod Weaker
