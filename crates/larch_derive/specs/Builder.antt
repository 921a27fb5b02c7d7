-- What a builder holds, and what its calls do to that.
use Rattle.std.specs.Prelude.{◌≡◌, ℕ, suc, ◌-◌, List, [], ◌∷◌, ◌++◌, map, length, take, Bool, true, false}
use Rattle.larch_term.specs.Operator.{PlainOperator}
use Rattle.larch_term.specs.declared.statement.Statement.{Statement}
use Rattle.larch_term.specs.declared.statement.Theory.{Theory}
use Rattle.larch_term.specs.Tree.{Tree}
use Rattle.larch_certificate_text.specs.CertificateCoded.{CodedTree}
use Rattle.larch_certificate_text.specs.CertificateLineBoxPart.{BoxPart}
use Rattle.larch_certificate_text.specs.CertificateLineCodedEquation.{CodedEquation}
use Rattle.larch_certificate_text.specs.CertificateLineLine.{Line}
use Rattle.larch_certificate_text.specs.CertificateLineLine.TheVariants.{Axiom, Hyp, Row, Refl, Sym, Inst, Repl, Equal}
use Rattle.larch_certificate_text.specs.CertificateLineLine.TheVariants.{BoxLine, Done, Fresh, Cases, Induct, Observe}
use Rattle.larch_certificate_text.specs.CertificateLineLine.TheVariants.{Generated, Partitioned}
use Rattle.larch_certificate_text.specs.Parts.{IsSmall, Each}
use Rattle.larch_derive.specs.declared.builder.Builder.{Builder}
use Rattle.larch_derive.specs.declared.open_box.OpenBox.{OpenBox}
use Rattle.larch_derive.specs.Coding.{IsCodeOf, AreCodesOfEquations}

-- the theory that a builder writes about
abbrev pub theory_in : Builder → Theory
theory_in b = b.theory

-- the lines of a builder
abbrev pub lines_in : Builder → List Line
lines_in b = b.lines

-- its open boxes, the outermost first
abbrev pub boxes_in : Builder → List OpenBox
boxes_in b = b.boxes

-- the coded term is the term as the builder's next lines write it
abbrev pub IsCodeIn : Builder → Tree → CodedTree → Type 0
IsCodeIn b t c = IsCodeOf b.boxes b.theory.operators t c

-- whether a line opens a box
abbrev pub opens_box : Line → Bool
opens_box (Axiom k) = false
opens_box (Hyp b k) = false
opens_box (Row k s) = false
opens_box (Refl c) = false
opens_box (Sym m) = false
opens_box (Inst m bs) = false
opens_box (Repl m p k) = false
opens_box (Equal m) = false
opens_box (BoxLine ps es) = true
opens_box Done = false
opens_box (Fresh b vs) = false
opens_box (Cases b c) = false
opens_box (Induct m x e bs) = false
opens_box (Observe m e ns) = false
opens_box (Generated b s ks) = false
opens_box (Partitioned b s ks) = false

-- the boxes that stay open behind a line: done closes the innermost
abbrev pub still_open : Line → List OpenBox → List OpenBox
still_open (Axiom k) bs = bs
still_open (Hyp b k) bs = bs
still_open (Row k s) bs = bs
still_open (Refl c) bs = bs
still_open (Sym m) bs = bs
still_open (Inst m es) bs = bs
still_open (Repl m p k) bs = bs
still_open (Equal m) bs = bs
still_open (BoxLine ps es) bs = bs
still_open Done bs = take (length bs - 1) bs
still_open (Fresh b vs) bs = bs
still_open (Cases b c) bs = bs
still_open (Induct m x e ns) bs = bs
still_open (Observe m e ns) bs = bs
still_open (Generated b s ks) bs = bs
still_open (Partitioned b s ks) bs = bs

-- the numbers of the line that don't stand in its terms are below 2 ^ 64
abbrev pub HasSmallNumbers : Line → Type 0
HasSmallNumbers (Axiom k) = IsSmall k
HasSmallNumbers (Hyp b k) = IsSmall b × IsSmall k
HasSmallNumbers (Row k s) = IsSmall k
HasSmallNumbers (Refl c) = Unit {0}
HasSmallNumbers (Sym m) = IsSmall m
HasSmallNumbers (Inst m bs) = IsSmall m
HasSmallNumbers (Repl m p k) = IsSmall m × Each IsSmall p × IsSmall k
HasSmallNumbers (Equal m) = IsSmall m
HasSmallNumbers (BoxLine ps es) = Unit {0}
HasSmallNumbers Done = Unit {0}
HasSmallNumbers (Fresh b vs) = IsSmall b
HasSmallNumbers (Cases b c) = IsSmall b × IsSmall c
HasSmallNumbers (Induct m x e bs) = IsSmall m × Each IsSmall bs
HasSmallNumbers (Observe m e ns) = IsSmall m × Each IsSmall ns
HasSmallNumbers (Generated b s ks) = IsSmall b × Each IsSmall ks
HasSmallNumbers (Partitioned b s ks) = IsSmall b × Each IsSmall ks

-- a builder of the theory without lines
abbrev pub IsEmpty : Theory → Builder → Type 0
IsEmpty t b = (b.theory ≡ t) × (b.lines ≡ []) × (b.boxes ≡ [])

-- the second builder has one line more, and these boxes are open
abbrev pub IsPushedOnto : Builder → Builder → Line → List OpenBox → Type 0
IsPushedOnto a b line boxes = (b.theory ≡ a.theory) × (b.lines ≡ a.lines ++ line ∷ []) × (b.boxes ≡ boxes)

-- the second builder has one line more, which has the number; all these numbers are below 2 ^ 64
pub record IsPushed (a b : Builder) (line : Line) (n : ℕ) : Type 0 where
  pub theory : b.theory ≡ a.theory
  pub lines : b.lines ≡ a.lines ++ line ∷ []
  pub boxes : b.boxes ≡ still_open line a.boxes
  pub number : n ≡ suc (length a.lines)
  pub small : IsSmall n
  pub numbers : HasSmallNumbers line

-- what a line says that a box has for an operator that stands for one of its constants: a constant, or a predicate
-- on the one sort of its domain
abbrev pub part_sort : PlainOperator → List (List ℕ) → BoxPart
part_sort f [] = record { sort = f.range; predicate = false }
part_sort f (s ∷ ss) = record { sort = s; predicate = true }

abbrev pub part_for : PlainOperator → BoxPart
part_for f = part_sort f f.domain

-- the number of an open box and what it makes
abbrev pub shape_of : OpenBox → ℕ × List BoxPart
shape_of x = (x.number, map part_for x.constants)

-- the line opens a box with these constants and hypotheses, which are written where these boxes are open
abbrev pub IsBoxLine : List OpenBox → List PlainOperator → List PlainOperator → List Statement → Line → Type 0
IsBoxLine bs fs cs hs line =
    (es : List CodedEquation) × (line ≡ BoxLine (map part_for cs) es) × AreCodesOfEquations bs fs hs es

-- the second builder has a box line more, which has the number: a box with these constants and hypotheses
pub record IsOpened (a b : Builder) (cs : List PlainOperator) (hs : List Statement) (n : ℕ) : Type 0 where
  pub theory : b.theory ≡ a.theory
  pub line : Line
  pub lines : b.lines ≡ a.lines ++ line ∷ []
  pub boxes : b.boxes ≡ a.boxes ++ record { number = n; constants = cs } ∷ []
  pub number : n ≡ suc (length a.lines)
  pub small : IsSmall n
  pub says : IsBoxLine b.boxes a.theory.operators cs hs line
