pub mod Deriving
pub mod Ending
pub mod Joining
pub mod Reducing
pub mod Rewritten
