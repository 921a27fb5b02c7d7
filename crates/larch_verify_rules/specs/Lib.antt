pub mod Instances
pub mod Row
