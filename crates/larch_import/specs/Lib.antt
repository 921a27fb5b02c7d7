pub mod Building
pub mod ByWords
