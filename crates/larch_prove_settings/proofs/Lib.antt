pub mod InTurn
pub mod Kept
pub mod Named
-- passed on to crates above, which then needn't list the crates that these are of
pub use Rattle.larch_prove_meaning.proofs.LevelSorts as ProveMeaningLevelSorts
pub use Rattle.larch_prove_meaning.proofs.PartitionPlans as ProveMeaningPartitionPlans
pub use Rattle.larch_prove_meaning.proofs.StepSorts as ProveMeaningStepSorts
pub use Rattle.larch_sorts_meaning.proofs.ReadAnswers as SortsMeaningReadAnswers
pub use Rattle.larch_sorts_meaning.proofs.Sorted as SortsMeaningSorted
