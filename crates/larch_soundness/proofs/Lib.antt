-- Lemmas.
pub mod Assignments
pub mod Changed
pub mod Computing
pub mod Counterexamples
pub mod FirstFailing
pub mod Freed
pub mod Generating
pub mod Identities
pub mod IllSorted
pub mod Inducting
pub mod LeastSets
pub mod Observing
pub mod Sound
pub mod Standards
pub mod Values
