-- Lemmas.
pub mod BuiltIns
pub mod Decided
pub mod Deepest
pub mod TreeLists
pub mod TruthTest
-- passed on to crates above, which then needn't list the crates that these are of
pub use Rattle.larch_base.proofs.Bools as BaseBools
pub use Rattle.larch_base.proofs.Lists as BaseLists
pub use Rattle.larch_base.proofs.Members as BaseMembers
pub use Rattle.larch_base.proofs.Options as BaseOptions
