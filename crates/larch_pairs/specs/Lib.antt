pub mod Clashes
pub mod Demand
pub mod Refusal
pub mod Resolved
pub mod Unify
