pub mod Checking
pub mod Kinds
pub mod Verdict
