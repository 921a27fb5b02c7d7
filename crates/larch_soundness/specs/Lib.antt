pub mod Conditions
pub mod Counterexamples
