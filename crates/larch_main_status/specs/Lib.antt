pub mod Faults
pub mod Limits
pub mod Say
pub mod Status
-- passed on to crates above, which then needn't list the crates that these are of
pub use Rattle.larch_traits.specs.Files as TraitsFiles
