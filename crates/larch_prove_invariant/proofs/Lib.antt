pub mod Apart
pub mod Begin
pub mod BlockConstants
pub mod Boxes
pub mod Deduced
pub mod Deducing
pub mod Entered
pub mod Entrances
pub mod Firsts
pub mod Held
pub mod InWords
pub mod Instances
pub mod Knowing
pub mod Left
pub mod LevelConstants
pub mod Making
pub mod MethodEnds
pub mod Own
pub mod PartitionEnd
pub mod PlanWords
pub mod Planned
pub mod Said
pub mod Shared
pub mod Unopened
pub mod ReadWords
-- passed on to crates above, which then needn't list the crates that these are of
pub use Rattle.larch_methods.proofs.DeriveBoxesInside as DeriveBoxesInside
pub use Rattle.larch_methods.proofs.DeriveBoxesOpening as DeriveBoxesOpening
pub use Rattle.larch_methods.proofs.DeriveBoxesSupposing as DeriveBoxesSupposing
pub use Rattle.larch_methods.proofs.Begun as MethodsBegun
pub use Rattle.larch_methods.proofs.Opened as MethodsOpened
pub use Rattle.larch_methods.proofs.Planned as MethodsPlanned
pub use Rattle.larch_methods.proofs.Sharing as MethodsSharing
pub use Rattle.larch_methods.proofs.Undoing as MethodsUndoing
pub use Rattle.larch_methods.proofs.ProveMeaningCasePlans as ProveMeaningCasePlans
pub use Rattle.larch_methods.proofs.ProveMeaningNormalSides as ProveMeaningNormalSides
pub use Rattle.larch_methods.proofs.ProveMeaningPartitionPlans as ProveMeaningPartitionPlans
pub use Rattle.larch_methods.proofs.ProveMeaningTaking as ProveMeaningTaking
pub use Rattle.larch_methods.proofs.ScriptCommandsDecided as ScriptCommandsDecided
