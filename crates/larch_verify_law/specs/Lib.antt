pub mod Carrying
pub mod FirstBad
pub mod Moves
-- passed on to crates above, which then needn't list the crates that these are of
pub use Rattle.larch_verify_meaning.specs.CalculusBoxes as CalculusBoxes
pub use Rattle.larch_verify_meaning.specs.CalculusFormula as CalculusFormula
pub use Rattle.larch_verify_meaning.specs.CalculusFreed as CalculusFreed
pub use Rattle.larch_verify_meaning.specs.CalculusGeneration as CalculusGeneration
pub use Rattle.larch_verify_meaning.specs.CalculusObservation as CalculusObservation
pub use Rattle.larch_verify_meaning.specs.CalculusRenaming as CalculusRenaming
pub use Rattle.larch_verify_meaning.specs.CalculusTheories as CalculusTheories
pub use Rattle.larch_verify_meaning.specs.RenamingRenaming as RenamingRenaming
pub use Rattle.larch_verify_meaning.specs.BoxRules as VerifyMeaningBoxRules
pub use Rattle.larch_verify_meaning.specs.ClauseRules as VerifyMeaningClauseRules
pub use Rattle.larch_verify_meaning.specs.Context as VerifyMeaningContext
pub use Rattle.larch_verify_meaning.specs.Decoding as VerifyMeaningDecoding
pub use Rattle.larch_verify_meaning.specs.Events as VerifyMeaningEvents
pub use Rattle.larch_verify_meaning.specs.LastLine as VerifyMeaningLastLine
pub use Rattle.larch_verify_meaning.specs.Matching as VerifyMeaningMatching
pub use Rattle.larch_verify_meaning.specs.Run as VerifyMeaningRun
