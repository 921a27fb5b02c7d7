pub mod Inheriting
pub mod Naming
pub mod Observers
pub mod Operators
