pub mod Examples
pub mod Instances
pub mod Matching
pub mod NormalForm
pub mod Rewriting
pub mod Sides
pub mod Work
-- passed on to crates above, which then needn't list the crates that these are of
pub use Rattle.larch_tables.specs.CalculusFormula as CalculusFormula
pub use Rattle.larch_tables.specs.CalculusFreed as CalculusFreed
pub use Rattle.larch_tables.specs.CalculusGeneration as CalculusGeneration
pub use Rattle.larch_tables.specs.CalculusObservation as CalculusObservation
pub use Rattle.larch_tables.specs.CalculusTheories as CalculusTheories
pub use Rattle.larch_tables.specs.Row as TablesRow
pub use Rattle.larch_tables.specs.declared.row.Row as TablesRowRow
pub use Rattle.larch_tables.specs.Spelling as TablesSpelling
pub use Rattle.larch_tables.specs.Statement as TablesStatement
pub use Rattle.larch_tables.specs.Tables as TablesTables
