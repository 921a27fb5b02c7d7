pub mod Derived
pub mod Fronts
pub mod Joining
pub mod Lemmas
pub mod Over
