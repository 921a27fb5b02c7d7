pub mod ByteClasses
pub mod CertificateText
pub mod Empty
pub mod EquationText
pub mod LineText
pub mod ListText
pub mod Parts
pub mod SymbolText
pub mod TermText
-- passed on to crates above, which then needn't list the crates that these are of
pub use Rattle.larch_certificate.specs.Coded as CertificateCoded
pub use Rattle.larch_certificate.specs.declared.line.Binding as CertificateLineBinding
pub use Rattle.larch_certificate.specs.declared.line.BoxPart as CertificateLineBoxPart
pub use Rattle.larch_certificate.specs.declared.line.CodedEquation as CertificateLineCodedEquation
pub use Rattle.larch_certificate.specs.declared.line.Line as CertificateLineLine
pub use Rattle.larch_certificate.specs.declared.symbol.Symbol as CertificateSymbolSymbol
