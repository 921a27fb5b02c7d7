pub mod Completion
pub mod Computing
pub mod Examples
pub mod LastTest
pub mod Pairs
pub mod Rounds
pub mod Steps
-- passed on to crates above, which then needn't list the crates that these are of
pub use Rattle.larch_rewrite_meaning.specs.Sides as RewriteMeaningSides
