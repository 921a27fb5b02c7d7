pub mod BuiltIns
pub mod Sorts
