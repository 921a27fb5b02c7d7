pub mod Instances
pub mod Places
pub mod Stated
pub mod Ways
-- passed on to crates above, which then needn't list the crates that these are of
pub use Rattle.larch_derive.proofs.Growth as DeriveGrowth
pub use Rattle.larch_derive.proofs.Words as DeriveWords
