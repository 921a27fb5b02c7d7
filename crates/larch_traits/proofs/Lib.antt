pub mod EachFile
pub mod SameTexts
pub mod Worded
-- passed on to crates above, which then needn't list the crates that these are of
pub use Rattle.larch_duties_meaning.proofs.Claims as DutiesMeaningClaims
pub use Rattle.larch_duties_meaning.proofs.OneTheory as DutiesMeaningOneTheory
pub use Rattle.larch_flat.proofs.FlatSourcesTables as FlatSourcesTables
pub use Rattle.larch_duties_meaning.proofs.TraitsItemsKept as TraitsItemsKept
