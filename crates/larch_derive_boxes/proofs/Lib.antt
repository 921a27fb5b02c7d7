pub mod Cases
pub mod Closing
pub mod Freshness
pub mod Inside
pub mod Knowing
pub mod Newness
pub mod Opening
pub mod Renaming
pub mod Supposing
pub mod Words
-- passed on to crates above, which then needn't list the crates that these are of
pub use Rattle.larch_verify_law.proofs.CalculusRenamedHypotheses as CalculusRenamedHypotheses
pub use Rattle.larch_derive.proofs.Accepting as DeriveAccepting
pub use Rattle.larch_derive.proofs.Growth as DeriveGrowth
pub use Rattle.larch_derive.proofs.Pushing as DerivePushing
pub use Rattle.larch_derive.proofs.Runs as DeriveRuns
pub use Rattle.larch_derive.proofs.Unchanged as DeriveUnchanged
pub use Rattle.larch_derive.proofs.Words as DeriveWords
pub use Rattle.larch_verify_law.proofs.RenamingRenamed as RenamingRenamed
pub use Rattle.larch_verify_law.proofs.Told as VerifyLawTold
