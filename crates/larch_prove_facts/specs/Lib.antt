pub mod Derivation
pub mod Entries
pub mod Instance
pub mod Pairs
