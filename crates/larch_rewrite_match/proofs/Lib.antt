pub mod Apart
pub mod RowSteps
pub mod Searching
pub mod Heads
pub mod Shares
pub mod Tables
pub mod Turned
-- passed on to crates above, which then needn't list the crates that these are of
pub use Rattle.larch_rewrite_meaning.proofs.Matches as RewriteMeaningMatches
