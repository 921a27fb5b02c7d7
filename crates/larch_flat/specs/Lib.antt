pub mod Known
pub mod Parts
-- passed on to crates above, which then needn't list the crates that these are of
pub use Rattle.larch_flat_sources.specs.Sources as FlatSourcesSources
pub use Rattle.larch_flat_gathering.specs.FlatStatementsHashInput as FlatStatementsHashInput
pub use Rattle.larch_flat_gathering.specs.FlatStatementsMarkedCode as FlatStatementsMarkedCode
