-- Lemmas.
pub mod Asking
pub mod Fitting
pub mod Kept
pub mod Later
pub mod Meaning
pub mod OverOperators
pub mod Rounds
pub mod Solving
pub mod Unifying
-- passed on to crates above, which then needn't list the crates that these are of
pub use Rattle.larch_term_law.proofs.Agreement as TermLawAgreement
pub use Rattle.larch_term_law.proofs.Occurring as TermLawOccurring
pub use Rattle.larch_term_law.proofs.Places as TermLawPlaces
pub use Rattle.larch_term_law.proofs.Substitutions as TermLawSubstitutions
