-- Lemmas.
pub mod Feeding
pub mod Fields
pub mod FirstCut
pub mod Lines
pub mod ListSteps
pub mod RuleWords
