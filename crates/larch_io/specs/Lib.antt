pub mod Calls
pub mod Faults
pub mod Folder
pub mod Put
pub mod Reader
pub mod Refusal
pub mod Take
