pub mod Building
pub mod ByShift
pub mod Examples
pub mod Joined
pub mod Promise
