pub mod Matches
pub mod Normal
pub mod NormalForms
pub mod SortsKept
-- passed on to crates above, which then needn't list the crates that these are of
pub use Rattle.larch_tables.proofs.CalculusFreeing as CalculusFreeing
pub use Rattle.larch_tables.proofs.CalculusObserved as CalculusObserved
pub use Rattle.larch_tables.proofs.CalculusSorted as CalculusSorted
pub use Rattle.larch_tables.proofs.Offered as TablesOffered
