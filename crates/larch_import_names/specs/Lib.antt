pub mod Apartness
pub mod Names
pub mod Sorted
