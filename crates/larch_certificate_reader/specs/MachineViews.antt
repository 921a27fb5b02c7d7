-- How a term is read up to its parentheses and commas, and what contracts see of the answers.
use Rattle.std.specs.Prelude.{◌≡◌, ℕ, ◌==◌, List, [], ◌∷◌, ◌++◌, Option, Some, None, if◌then◌else◌}
use Rattle.std.specs.Borrow.{Bor}
use Rattle.larch_certificate.specs.Coded.{CodedTree}
use Rattle.larch_certificate_reader.specs.declared.machine.LeafEnd.{LeafEnd}
use Rattle.larch_certificate_reader.specs.declared.machine.LeafEnd.TheVariants.{Open, Comma, Close}
use Rattle.larch_certificate_reader.specs.declared.machine.Reading.{Reading}
use Rattle.larch_certificate_reader.specs.declared.machine.Step.{Step}
use Rattle.larch_certificate_reader.specs.declared.machine.Step.TheVariants.{Stuck, Goes, Ends}
use Rattle.larch_certificate_text.specs.Parts.{Each}
use Rattle.larch_certificate_text.specs.SymbolText.{read_leaf, read_symbol}
use Rattle.larch_certificate_text.specs.TermText.{Front, Progress, stuck, goes, ends, at_end, value_by}
use Rattle.larch_certificate_text.specs.TermText.{open_by, comma_by, close_by}
use Rattle.larch_certificate_text.specs.declared.here.Here.{Here}
use Rattle.larch_certificate_text.specs.declared.machine.Frame.{Frame}
use Rattle.larch_certificate_text.specs.declared.machine.Machine.{Machine}

-- the machine that has read this, and no byte of a further leaf
abbrev pub machine_of : Reading → Machine
machine_of r = record { stack = r.stack; atom = []; closed = r.closed }

-- what a step leads to, with what is read behind it
abbrev pub progress : Step → Reading → Progress
progress Stuck r = stuck
progress Goes r = goes (machine_of r)
progress (Ends t) r = ends t

-- a term and what stands behind it
abbrev pub front_view : Option (CodedTree × Bor (List ℕ)) → Front
front_view None = None
front_view (Some p) = Some (p.0, p.1.now)

-- ---- parentheses and commas

-- which mark a byte is
abbrev pub mark_of : ℕ → Option LeafEnd
mark_of b = if b == 40 then Some Open else if b == 44 then Some Comma else if b == 41 then Some Close else None

-- the byte of a mark
abbrev pub byte_of : LeafEnd → ℕ
byte_of Open = 40
byte_of Comma = 44
byte_of Close = 41

-- no byte is a mark
abbrev pub Unmarked : List ℕ → Type 0
Unmarked xs = Each (λ b. mark_of b ≡ None) xs

-- the first mark of a text stands between these
abbrev pub FirstMark : List ℕ → List ℕ → LeafEnd → List ℕ → Type 0
FirstMark text xs mark ys = (text ≡ xs ++ (byte_of mark ∷ ys)) × Unmarked xs

-- what a mark leads to, behind a closed term or the bytes of a leaf
abbrev pub after_mark : Here → LeafEnd → Option CodedTree → List ℕ → List Frame → Progress
after_mark h Open closed atom k = open_by closed (read_symbol h atom) k
after_mark h Comma closed atom k = comma_by (value_by h closed atom) k
after_mark h Close closed atom k = close_by (value_by h closed atom) k

-- the same, where no bytes may stand behind a closed term
abbrev pub marked_behind : Here → LeafEnd → Option CodedTree → List ℕ → List Frame → Progress
marked_behind h mark (Some t) (x ∷ xs) k = stuck
marked_behind h mark (Some t) [] k = after_mark h mark (Some t) [] k
marked_behind h mark None xs k = after_mark h mark None xs k

-- what the end of the text leads to, where no bytes may stand behind a closed term
abbrev pub ended_behind : Here → Option CodedTree → List ℕ → List Frame → Front
ended_behind h (Some t) (x ∷ xs) k = None
ended_behind h (Some t) [] k = at_end (Some t) k
ended_behind h None xs k = at_end (read_leaf h xs) k
