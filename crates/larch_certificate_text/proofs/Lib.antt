-- Lemmas.
pub mod Bytes
pub mod CertificateLaws
pub mod Cuts
pub mod EquationLaws
pub mod LineLaws
pub mod ListLaws
pub mod Numbers
pub mod OneRefusal
pub mod Refs
pub mod SymbolLaws
pub mod TermLaws
