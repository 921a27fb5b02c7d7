pub mod Row
pub mod Spelling
pub mod Statement
pub mod Tables
-- passed on to crates above, which then needn't list the crates that these are of
pub use Rattle.larch_calculus.specs.Boxes as CalculusBoxes
pub use Rattle.larch_calculus.specs.Derivable as CalculusDerivable
pub use Rattle.larch_calculus.specs.Example as CalculusExample
pub use Rattle.larch_calculus.specs.Formula as CalculusFormula
pub use Rattle.larch_calculus.specs.Freed as CalculusFreed
pub use Rattle.larch_calculus.specs.Generation as CalculusGeneration
pub use Rattle.larch_calculus.specs.Observation as CalculusObservation
pub use Rattle.larch_calculus.specs.Renaming as CalculusRenaming
pub use Rattle.larch_calculus.specs.Theories as CalculusTheories
pub use Rattle.larch_calculus.specs.RenamingRenaming as RenamingRenaming
