pub mod Axioms
pub mod Equalities
pub mod Hypotheses
pub mod Instances
pub mod Replacing
pub mod Rows
