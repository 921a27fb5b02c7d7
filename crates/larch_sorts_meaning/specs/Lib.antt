pub mod Faults
pub mod Found
pub mod Laws
pub mod Parts
pub mod Read
pub mod ReadingLists
pub mod Readings
pub mod Refusal
pub mod Scope
pub mod Signature
pub mod Stands
pub mod Unknown
-- passed on to crates above, which then needn't list the crates that these are of
pub use Rattle.larch_base.specs.declared.code.Code as BaseCodeCode
pub use Rattle.larch_base.specs.declared.position.Pos as BasePositionPos
pub use Rattle.larch_raw.specs.RawTree as RawRawTree
pub use Rattle.larch_raw.specs.RawView as RawRawView
pub use Rattle.larch_raw.specs.declared.declared.RawWord as RawRawWord
pub use Rattle.larch_sorts_known.specs.Sorts as SortsKnownSorts
pub use Rattle.larch_term.specs.Equality as TermEquality
pub use Rattle.larch_term.specs.Operator as TermOperator
pub use Rattle.larch_term.specs.OperatorKey as TermOperatorKey
pub use Rattle.larch_term.specs.Sorts as TermSorts
pub use Rattle.larch_term.specs.Tree as TermTree
