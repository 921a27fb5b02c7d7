pub mod Building
pub mod ByNumbers
pub mod Collecting
pub mod Ends
pub mod Searching
