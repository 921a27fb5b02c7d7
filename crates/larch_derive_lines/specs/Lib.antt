pub mod Rules
pub mod Way
-- passed on to crates above, which then needn't list the crates that these are of
pub use Rattle.larch_derive.specs.CalculusFormula as CalculusFormula
pub use Rattle.larch_derive.specs.CertificateTextLineText as CertificateTextLineText
pub use Rattle.larch_derive.specs.declared.builder.Builder as DeriveBuilderBuilder
pub use Rattle.larch_derive.specs.declared.open_box.OpenBox as DeriveOpen_boxOpenBox
pub use Rattle.larch_derive.specs.Predicates as DerivePredicates
pub use Rattle.larch_derive.specs.TablesRow as TablesRow
pub use Rattle.larch_derive.specs.TablesSpelling as TablesSpelling
pub use Rattle.larch_derive.specs.TablesTables as TablesTables
pub use Rattle.larch_derive.specs.VerifyMeaningMatching as VerifyMeaningMatching
pub use Rattle.larch_derive.specs.VerifyMeaningRules as VerifyMeaningRules
