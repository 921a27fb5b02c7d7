-- Certificates as texts, both ways.
use Rattle.std.specs.Prelude.{◌≡◌, ℕ, ◌+◌, ◌&&◌, ◌||◌, not, Bool, true, false}
use Rattle.std.specs.Prelude.{List, [], ◌∷◌, ◌++◌, codes, bytes_eq}
use Rattle.std.specs.Prelude.{Option, Some, None, Result, Ok, Err}
use Rattle.std.specs.Prelude.{if◌then◌else◌}
use Rattle.larch_certificate_text.specs.declared.here.Here.{Here}
use Rattle.larch_certificate.specs.declared.line.Line.{Line}
use Rattle.larch_certificate_text.specs.EquationText.{is_nothing}
use Rattle.larch_certificate_text.specs.ListText.{split_at}
use Rattle.larch_certificate_text.specs.Parts.{IsSmall}
use Rattle.larch_certificate_text.specs.LineText.{line_text, read_line, FitLine}

-- line n, in a version
abbrev pub here : Bool → ℕ → Here
here relative n = record { relative = relative; line = n }

-- the first line
abbrev pub header : Bool → List ℕ
header false = codes "certificate 1"
header true = codes "certificate 2"

-- the lines from number n on, each with a byte 10 behind it
abbrev pub lines_text : Bool → ℕ → List Line → List ℕ
lines_text v n [] = []
lines_text v n (r ∷ rs) = line_text (here v n) r ++ (10 ∷ lines_text v (n + 1) rs)

-- the text of a certificate, with distances and names or without
abbrev pub certificate_text : Bool → List Line → List ℕ
certificate_text v rs = header v ++ (10 ∷ lines_text v 1 rs)

-- the lines from number n on have texts
abbrev pub FitLines : ℕ → List Line → Type 0
FitLines n [] = Unit {0}
FitLines n (r ∷ rs) = IsSmall n × FitLine r × FitLines (n + 1) rs

-- a certificate that can be written and read again
abbrev pub Writable : List Line → Type 0
Writable rs = FitLines 1 rs

-- the lines, or the number of the first text line that is outside the grammar
abbrev pub Reading : Type 0
Reading = Result (List Line) ℕ

-- a line in front of the others
abbrev pub put_before : Line → Reading → Reading
put_before r (Ok rs) = Ok (r ∷ rs)
put_before r (Err k) = Err k

-- a line and the others, or its text line where it is none
abbrev pub lines_by : ℕ → Option Line → Reading → Reading
lines_by n None further = Err (n + 1)
lines_by n (Some r) further = put_before r further

-- what stands behind the last byte 10 is to be nothing
abbrev pub ending : ℕ → List ℕ → Reading
ending n x = if is_nothing x then Ok [] else Err (n + 1)

-- the lines from number n on, from the pieces between the bytes 10
abbrev pub read_lines : Bool → ℕ → List (List ℕ) → Reading
read_lines v n [] = Err (n + 1)
read_lines v n (x ∷ []) = ending n x
read_lines v n (x ∷ y ∷ ys) = lines_by n (read_line (here v n) x) (read_lines v (n + 1) (y ∷ ys))

-- which version a first line says: the first one, or either of them
abbrev pub version_of : Bool → List ℕ → Option Bool
version_of either x =
    if bytes_eq x (codes "certificate 1") then Some false
    else if either && bytes_eq x (codes "certificate 2") then Some true
    else None

-- the second version is read where either is
abbrev pub IsRead : Bool → Bool → Type 0
IsRead either v = (either || not v) ≡ true

-- a certificate with its version
abbrev pub Versioned : Type 0
Versioned = Result (Bool × List Line) ℕ

-- the lines with their version
abbrev pub with_version : Bool → Reading → Versioned
with_version v (Ok rs) = Ok (v, rs)
with_version v (Err k) = Err k

-- what the pieces behind the first line say: there is at least an empty one, behind its byte 10
abbrev pub read_by : Option Bool → List (List ℕ) → Versioned
read_by None xs = Err 1
read_by (Some v) [] = Err 1
read_by (Some v) (x ∷ xs) = with_version v (read_lines v 1 (x ∷ xs))

-- what the pieces between the bytes 10 say
abbrev pub read_pieces : Bool → List (List ℕ) → Versioned
read_pieces either [] = Err 1
read_pieces either (x ∷ xs) = read_by (version_of either x) xs

-- the certificate that a text is, or the number of the first text line that is outside the grammar
unfoldable pub read_certificate : Bool → List ℕ → Versioned
read_certificate either text = read_pieces either (split_at 10 text)

-- ---- the first text line outside the grammar, as a property

-- text line n + 1, which is x, is line n of some certificate
abbrev pub InGrammar : Bool → ℕ → List ℕ → Type 0
InGrammar v n x = (r : Line) × FitLine r × (x ≡ line_text (here v n) r)

-- among the pieces between the bytes 10, from line n on, the first one that is no line, or that should be nothing
-- and is not, is text line k
pub data FirstOutside : Bool → ℕ → List (List ℕ) → ℕ → Type 0 where
  no_line : {v : Bool} {n : ℕ} {x y : List ℕ} {ys : List (List ℕ)} → (InGrammar v n x → ⊥)
      → FirstOutside v n (x ∷ y ∷ ys) (n + 1)
  not_ended : {v : Bool} {n : ℕ} {b : ℕ} {bs : List ℕ} → FirstOutside v n ((b ∷ bs) ∷ []) (n + 1)
  further : {v : Bool} {n k : ℕ} {x y : List ℕ} {ys : List (List ℕ)} → InGrammar v n x
      → FirstOutside v (n + 1) (y ∷ ys) k → FirstOutside v n (x ∷ y ∷ ys) k

-- the pieces behind a first line are those from line 1 on
abbrev pub OutsideBehind : Option Bool → List (List ℕ) → ℕ → Type 0
OutsideBehind None xs k = k ≡ 1
OutsideBehind (Some v) [] k = k ≡ 1
OutsideBehind (Some v) (x ∷ xs) k = FirstOutside v 1 (x ∷ xs) k

-- the same with the first line
abbrev pub OutsidePieces : Bool → List (List ℕ) → ℕ → Type 0
OutsidePieces either [] k = k ≡ 1
OutsidePieces either (x ∷ xs) k = OutsideBehind (version_of either x) xs k

-- text line k is the first that is outside the grammar
abbrev pub IsFirstOutside : Bool → List ℕ → ℕ → Type 0
IsFirstOutside either text k = OutsidePieces either (split_at 10 text) k

-- the text is the one of a writable certificate
abbrev pub IsTextOf : List ℕ → Bool → List Line → Type 0
IsTextOf text v rs = (text ≡ certificate_text v rs) × Writable rs
