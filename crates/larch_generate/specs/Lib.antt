pub mod Examples
pub mod Generator
