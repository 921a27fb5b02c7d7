-- Lemmas.
pub mod Above
pub mod AsMultisets
pub mod Below
pub mod BuiltIns
pub mod Comparing
pub mod Computed
pub mod Context
pub mod FromLeft
pub mod FromRight
pub mod Irreflexive
pub mod Multisets
pub mod Ordering
pub mod OrderingLaws
pub mod Heights
pub mod Stable
pub mod Transitive
