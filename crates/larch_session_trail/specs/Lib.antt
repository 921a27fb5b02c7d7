pub mod Trail
-- passed on to crates above, which then needn't list the crates that these are of
pub use Rattle.larch_prove.specs.ProveOpeningStating as ProveOpeningStating
pub use Rattle.larch_prove.specs.Prepared as ProvePrepared
pub use Rattle.larch_prove.specs.State as ProveState
pub use Rattle.larch_prove.specs.declared.duty.ProofDuty as ProveDutyProofDuty
