pub mod Showing
-- passed on to crates above, which then needn't list the crates that these are of
pub use Rattle.larch_derive_boxes.specs.Boxes as DeriveBoxesBoxes
