pub mod Levels
pub mod Turns
pub mod Lines
pub mod Stored
pub mod PlainRules
pub mod Layers
pub mod RuleSets
pub mod Roots
pub mod Found
-- passed on to crates above, which then needn't list the crates that these are of
pub use Rattle.larch_rewrite_step.proofs.DeriveLinesWays as DeriveLinesWays
pub use Rattle.larch_rewrite_law.proofs.Turns as RewriteLawTurns
