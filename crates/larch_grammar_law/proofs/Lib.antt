pub mod Embedded
pub mod Fronts
pub mod Meanings
pub mod Verdict
pub mod Walking
