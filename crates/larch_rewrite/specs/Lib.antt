pub mod Kept
pub mod Level
pub mod Refusal
pub mod RuleSet
pub mod RuleSetCode
pub mod Search
pub mod Ways
