-- Lemmas.
pub mod Behind
pub mod Ending
pub mod Accepted
pub mod Lengths
pub mod Moving
pub mod Numbers
pub mod Plain
pub mod Writable
