-- Lemmas.
pub mod Accepted
pub mod Again
pub mod Boxes
pub mod Fronts
pub mod Kept
pub mod Marks
pub mod Moving
pub mod Names
pub mod Needed
pub mod Numbers
pub mod Standing
