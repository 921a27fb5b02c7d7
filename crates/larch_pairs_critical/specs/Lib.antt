pub mod Examples
pub mod Overlap
pub mod Pairs
pub mod Variables
-- passed on to crates above, which then needn't list the crates that these are of
pub use Rattle.larch_pairs.specs.Unify as PairsUnify
