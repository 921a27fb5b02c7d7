pub mod Costs
pub mod Levels
pub mod Stacked
