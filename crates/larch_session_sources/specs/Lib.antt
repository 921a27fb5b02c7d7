pub mod Justified
pub mod Looked
pub mod Steps
-- passed on to crates above, which then needn't list the crates that these are of
pub use Rattle.larch_session_law.specs.Certified as SessionLawCertified
pub use Rattle.larch_session_law.specs.Claims as SessionLawClaims
