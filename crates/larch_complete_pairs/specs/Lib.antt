pub mod Said
-- passed on to crates above, which then needn't list the crates that these are of
pub use Rattle.larch_complete_meaning.specs.Pairs as CompleteMeaningPairs
pub use Rattle.larch_derive_boxes.specs.Boxes as DeriveBoxesBoxes
pub use Rattle.larch_derive_lines.specs.Rules as DeriveLinesRules
