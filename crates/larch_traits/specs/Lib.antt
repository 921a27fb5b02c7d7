pub mod Files
pub mod Reading
-- passed on to crates above, which then needn't list the crates that these are of
pub use Rattle.larch_duties_meaning.specs.Claims as DutiesMeaningClaims
pub use Rattle.larch_duties_meaning.specs.Conversions as DutiesMeaningConversions
pub use Rattle.larch_duties_meaning.specs.Duties as DutiesMeaningDuties
pub use Rattle.larch_duties_meaning.specs.Examples as DutiesMeaningExamples
pub use Rattle.larch_duties_meaning.specs.Implied as DutiesMeaningImplied
pub use Rattle.larch_duties_meaning.specs.Laws as DutiesMeaningLaws
pub use Rattle.larch_flat.specs.Known as FlatKnown
pub use Rattle.larch_flat.specs.Parts as FlatParts
pub use Rattle.larch_flat.specs.FlatSourcesSources as FlatSourcesSources
pub use Rattle.larch_duties_meaning.specs.TraitsItemsLaws as TraitsItemsLaws
