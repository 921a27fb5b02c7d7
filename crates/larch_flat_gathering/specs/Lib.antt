pub mod FlatCode
pub mod Keeping
pub mod Storing
-- passed on to crates above, which then needn't list the crates that these are of
pub use Rattle.larch_flat_statements.specs.HashInput as FlatStatementsHashInput
pub use Rattle.larch_flat_statements.specs.MarkedCode as FlatStatementsMarkedCode
