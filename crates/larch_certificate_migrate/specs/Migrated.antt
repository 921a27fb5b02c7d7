-- Texts of certificates in the second version.
use Rattle.std.specs.Prelude.{ℕ, Bool, true, List, Result, Ok, Err}
use Rattle.larch_certificate.specs.declared.line.Line.{Line}
use Rattle.larch_certificate_text.specs.CertificateText.{certificate_text, read_certificate}

-- the text in the second version, by what a text is read as: it may be none
abbrev pub migrated_of : Result (Bool × List Line) ℕ → Result (List ℕ) ℕ
migrated_of (Ok read) = Ok (certificate_text true read.1)
migrated_of (Err number) = Err number

-- the text in the second version of the certificate whose text, in either version, this is; or the number of the first
-- text line that is outside the grammar
abbrev pub second_text : List ℕ → Result (List ℕ) ℕ
second_text text = migrated_of (read_certificate true text)
