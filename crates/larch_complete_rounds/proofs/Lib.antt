pub mod Adding
pub mod Certifying
pub mod NewPairs
pub mod Reducing
pub mod Settled
