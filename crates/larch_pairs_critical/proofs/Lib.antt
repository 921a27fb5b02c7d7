pub mod Different
pub mod Every
pub mod Listing
pub mod Numbering
pub mod OverOperators
pub mod Overlapping
pub mod Pairing
pub mod Replacements
pub mod Sorting
-- passed on to crates above, which then needn't list the crates that these are of
pub use Rattle.larch_pairs.proofs.TermLawOccurring as TermLawOccurring
pub use Rattle.larch_pairs.proofs.TermLawSubstitutions as TermLawSubstitutions
