-- Why a text is no certificate.
use Rattle.std.specs.Prelude.{ℕ}
use Rattle.larch_certificate_reader.specs.declared.certificate.FormRefusal.{FormRefusal}
use Rattle.larch_certificate_reader.specs.declared.certificate.FormRefusal.TheVariants.{Form, Memory}

-- a fact about the text line that a refusal names; out of memory names none
abbrev pub IfForm : FormRefusal → (ℕ → Type 0) → Type 0
IfForm (Form n) P = P n
IfForm Memory P = Unit {0}
