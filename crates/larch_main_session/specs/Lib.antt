pub mod Command
pub mod Endings
pub mod Input
pub mod Laws
pub mod Lines
pub mod Progress
pub mod Replies
pub mod Reports
pub mod Session
pub mod SoFar
-- passed on to crates above, which then needn't list the crates that these are of
pub use Rattle.larch_session.specs.SessionSourcesJustified as SessionSourcesJustified
