-- Answers alone.

-- passed on to crates above, which then needn't list the crates that these are of
pub use Rattle.larch_duties.proofs.Counts as DutiesCounts
pub use Rattle.larch_traits.proofs.DutiesMeaningClaims as DutiesMeaningClaims
pub use Rattle.larch_traits.proofs.DutiesMeaningOneTheory as DutiesMeaningOneTheory
pub use Rattle.larch_duties.proofs.OwnDuties as DutiesOwnDuties
pub use Rattle.larch_duties.proofs.Worded as DutiesWorded
pub use Rattle.larch_duties.proofs.FlatMeaningGathering as FlatMeaningGathering
pub use Rattle.larch_duties.proofs.FlatMeaningProper as FlatMeaningProper
pub use Rattle.larch_traits.proofs.FlatSourcesTables as FlatSourcesTables
pub use Rattle.larch_script.proofs.Words as ScriptWords
pub use Rattle.larch_traits.proofs.TraitsItemsKept as TraitsItemsKept
pub use Rattle.larch_traits.proofs.Worded as TraitsWorded
