pub mod Certified
pub mod Halt
pub mod Ready
pub mod Task
