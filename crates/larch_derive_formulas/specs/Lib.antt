pub mod Instances
pub mod Formulas
pub mod Consequences
-- passed on to crates above, which then needn't list the crates that these are of
pub use Rattle.larch_derive_lines.specs.Rules as DeriveLinesRules
pub use Rattle.larch_derive_lines.specs.Way as DeriveLinesWay
