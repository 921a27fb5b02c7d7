pub mod Generation
pub mod Inductions
pub mod Observers
pub mod Partition
pub mod Staying
pub mod Written
-- passed on to crates above, which then needn't list the crates that these are of
pub use Rattle.larch_derive_boxes.proofs.Closing as DeriveBoxesClosing
pub use Rattle.larch_derive_boxes.proofs.Freshness as DeriveBoxesFreshness
pub use Rattle.larch_derive_boxes.proofs.Inside as DeriveBoxesInside
pub use Rattle.larch_derive_boxes.proofs.Knowing as DeriveBoxesKnowing
pub use Rattle.larch_derive_boxes.proofs.Opening as DeriveBoxesOpening
pub use Rattle.larch_derive_boxes.proofs.Supposing as DeriveBoxesSupposing
pub use Rattle.larch_derive_boxes.proofs.Words as DeriveBoxesWords
