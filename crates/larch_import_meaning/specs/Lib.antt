pub mod Examples
pub mod Fresh
pub mod Imported
pub mod Lengths
pub mod Rules
