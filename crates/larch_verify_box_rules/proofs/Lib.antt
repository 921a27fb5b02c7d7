pub mod Alike
pub mod Boxes
pub mod CaseSplits
pub mod Freed
pub mod Generators
pub mod Supposed
-- passed on to crates above, which then needn't list the crates that these are of
pub use Rattle.larch_verify_parts.proofs.Each as VerifyPartsEach
