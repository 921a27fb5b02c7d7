pub mod Parts
-- passed on to crates above, which then needn't list the crates that these are of
pub use Rattle.larch_session_derive_meaning.specs.Derived as SessionDeriveMeaningDerived
