pub mod Greater
pub mod Precedence
-- passed on to crates above, which then needn't list the crates that these are of
pub use Rattle.larch_sorts_known.specs.Sorts as SortsKnownSorts
