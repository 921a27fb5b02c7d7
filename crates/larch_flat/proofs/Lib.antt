pub mod Answering
pub mod Elsewhere
pub mod Files
pub mod Knowing
pub mod Parts
pub mod References
pub mod Steps
pub mod Targets
-- passed on to crates above, which then needn't list the crates that these are of
pub use Rattle.larch_flat_sources.proofs.Tables as FlatSourcesTables
