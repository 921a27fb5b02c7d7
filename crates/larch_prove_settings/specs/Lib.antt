pub mod Changing
pub mod References
pub mod Scope
pub mod Settings
pub mod Telling
-- passed on to crates above, which then needn't list the crates that these are of
pub use Rattle.larch_order.specs.declared.precedence.Ranked as OrderPrecedenceRanked
pub use Rattle.larch_prove_meaning.specs.Facts as ProveMeaningFacts
pub use Rattle.larch_prove_meaning.specs.InWords as ProveMeaningInWords
pub use Rattle.larch_prove_meaning.specs.Levels as ProveMeaningLevels
pub use Rattle.larch_prove_meaning.specs.Named as ProveMeaningNamed
pub use Rattle.larch_prove_meaning.specs.Plans as ProveMeaningPlans
pub use Rattle.larch_prove_meaning.specs.Steps as ProveMeaningSteps
pub use Rattle.larch_prove_meaning.specs.WellSorted as ProveMeaningWellSorted
pub use Rattle.larch_prove_meaning.specs.RewriteMeaningNormalForm as RewriteMeaningNormalForm
pub use Rattle.larch_prove_meaning.specs.RewriteMeaningSides as RewriteMeaningSides
pub use Rattle.larch_sorts_meaning.specs.Read as SortsMeaningRead
