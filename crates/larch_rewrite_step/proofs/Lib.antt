pub mod Entries
pub mod Exchange
pub mod Applications
pub mod RightSides
pub mod Written
-- passed on to crates above, which then needn't list the crates that these are of
pub use Rattle.larch_derive_lines.proofs.Ways as DeriveLinesWays
pub use Rattle.larch_rewrite_match.proofs.Searching as RewriteMatchSearching
