pub mod Exchanged
pub mod Rule
pub mod Bound
pub mod Search
pub mod Heads
pub mod Rows
-- passed on to crates above, which then needn't list the crates that these are of
pub use Rattle.larch_rewrite_meaning.specs.Matching as RewriteMeaningMatching
pub use Rattle.larch_rewrite_meaning.specs.Rewriting as RewriteMeaningRewriting
pub use Rattle.larch_rewrite_meaning.specs.Work as RewriteMeaningWork
