pub mod Entering
pub mod Leading
pub mod OpenedBy
pub mod Posing
pub mod Saying
pub mod Starting
