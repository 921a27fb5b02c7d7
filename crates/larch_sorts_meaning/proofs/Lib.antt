pub mod Answers
pub mod Applications
pub mod Converse
pub mod Existing
pub mod Kept
pub mod Listed
pub mod Parts
pub mod ReadAnswers
pub mod Refusals
pub mod Scopes
pub mod Sorted
pub mod SortsRead
pub mod Telling
pub mod Unread
-- passed on to crates above, which then needn't list the crates that these are of
pub use Rattle.larch_base.proofs.Members as BaseMembers
pub use Rattle.larch_term.proofs.TreeLists as TermTreeLists
