pub mod Kept
-- passed on to crates above, which then needn't list the crates that these are of
pub use Rattle.larch_renaming.specs.Renaming as RenamingRenaming
