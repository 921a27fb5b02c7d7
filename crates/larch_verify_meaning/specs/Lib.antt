pub mod Acceptance
pub mod BoxRules
pub mod Certificates
pub mod ClauseRules
pub mod Context
pub mod Decoding
pub mod Events
pub mod Examples
pub mod LastLine
pub mod Matching
pub mod Rules
pub mod Run
-- passed on to crates above, which then needn't list the crates that these are of
pub use Rattle.larch_tables.specs.CalculusBoxes as CalculusBoxes
pub use Rattle.larch_tables.specs.CalculusDerivable as CalculusDerivable
pub use Rattle.larch_tables.specs.CalculusFormula as CalculusFormula
pub use Rattle.larch_tables.specs.CalculusFreed as CalculusFreed
pub use Rattle.larch_tables.specs.CalculusGeneration as CalculusGeneration
pub use Rattle.larch_tables.specs.CalculusObservation as CalculusObservation
pub use Rattle.larch_tables.specs.CalculusRenaming as CalculusRenaming
pub use Rattle.larch_tables.specs.CalculusTheories as CalculusTheories
pub use Rattle.larch_tables.specs.RenamingRenaming as RenamingRenaming
pub use Rattle.larch_tables.specs.Row as TablesRow
pub use Rattle.larch_tables.specs.Spelling as TablesSpelling
pub use Rattle.larch_tables.specs.Statement as TablesStatement
pub use Rattle.larch_tables.specs.Tables as TablesTables
