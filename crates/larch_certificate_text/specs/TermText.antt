-- Terms as texts, and the machine that reads them.
use Rattle.std.specs.Prelude.{◌≡◌, ℕ, ◌==◌, true, List, [], ◌∷◌, ◌++◌, Option, Some, None}
use Rattle.std.specs.Prelude.{if◌then◌else◌}
use Rattle.larch_certificate.specs.BaseWord.{is_word}
use Rattle.larch_certificate_text.specs.declared.here.Here.{Here}
use Rattle.larch_certificate.specs.declared.symbol.Symbol.{Symbol}
use Rattle.larch_certificate_text.specs.declared.machine.Frame.{Frame}
use Rattle.larch_certificate_text.specs.declared.machine.Machine.{Machine}
use Rattle.larch_certificate_text.specs.SymbolText.{symbol_text, FitSymbol, read_symbol, read_leaf}
use Rattle.larch_certificate.specs.Coded.{CodedTree, CodedForest, coded_var, coded_app, no_terms, term_then}
use Rattle.larch_certificate.specs.Coded.{coded_forest_of}

abbrev mutual
  -- the text of a term
  pub term_text : Here → CodedTree → List ℕ
  term_text h (coded_var n s) = n ++ (58 ∷ s)
  term_text h (coded_app f ts) = symbol_text h f ++ arguments_text h ts

  -- the text of the arguments, with their parentheses
  pub arguments_text : Here → CodedForest → List ℕ
  arguments_text h no_terms = []
  arguments_text h (term_then t ts) = 40 ∷ (term_text h t ++ others_text h ts)

  -- the text of the further arguments
  pub others_text : Here → CodedForest → List ℕ
  others_text h no_terms = 41 ∷ []
  others_text h (term_then t ts) = 44 ∷ (term_text h t ++ others_text h ts)

abbrev mutual
  -- a term that has a text
  pub FitTerm : CodedTree → Type 0
  FitTerm (coded_var n s) = (is_word n ≡ true) × (is_word s ≡ true)
  FitTerm (coded_app f ts) = FitSymbol f × FitTerms ts

  pub FitTerms : CodedForest → Type 0
  FitTerms no_terms = Unit {0}
  FitTerms (term_then t ts) = FitTerm t × FitTerms ts

-- what a byte leads to: nothing, the next state, or a whole term
pub data Progress : Type 0 where
  stuck : Progress
  goes : Machine → Progress
  ends : CodedTree → Progress

-- the machine with nothing read since the last open parenthesis or comma
abbrev pub fresh : List Frame → Machine
fresh k = record { stack = k; atom = []; closed = None }

-- the machine that has read these bytes of a leaf
abbrev pub with_atom : List ℕ → List Frame → Machine
with_atom xs k = record { stack = k; atom = xs; closed = None }

-- the machine that has read this term with its arguments
abbrev pub with_closed : CodedTree → List Frame → Machine
with_closed t k = record { stack = k; atom = []; closed = Some t }

-- a symbol whose first argument is awaited
abbrev pub open_frame : Symbol → Frame
open_frame f = record { symbol = f; done = [] }

-- a frame with one argument more
abbrev pub with_done : Frame → CodedTree → Frame
with_done fr t = record { symbol = fr.symbol; done = fr.done ++ (t ∷ []) }

-- the term that was closed, or else the leaf that the bytes are
abbrev pub value_by : Here → Option CodedTree → List ℕ → Option CodedTree
value_by h (Some t) atom = Some t
value_by h None atom = read_leaf h atom

-- the term that the machine has read last
abbrev pub value_of : Here → Machine → Option CodedTree
value_of h m = value_by h m.closed m.atom

-- an open parenthesis stands behind a symbol
abbrev pub open_by : Option CodedTree → Option Symbol → List Frame → Progress
open_by (Some t) f k = stuck
open_by None None k = stuck
open_by None (Some f) k = goes (fresh (open_frame f ∷ k))

-- a comma stands behind an argument
abbrev pub comma_by : Option CodedTree → List Frame → Progress
comma_by None k = stuck
comma_by (Some t) [] = stuck
comma_by (Some t) (fr ∷ k) = goes (fresh (with_done fr t ∷ k))

-- a closed term is the whole, or the last argument so far
abbrev pub settle : CodedTree → List Frame → Progress
settle t [] = ends t
settle t (fr ∷ k) = goes (with_closed t (fr ∷ k))

-- a closing parenthesis stands behind the last argument
abbrev pub close_by : Option CodedTree → List Frame → Progress
close_by None k = stuck
close_by (Some t) [] = stuck
close_by (Some t) (fr ∷ k) = settle (coded_app fr.symbol (coded_forest_of (fr.done ++ (t ∷ [])))) k

-- any other byte belongs to a leaf
abbrev pub byte_by : Option CodedTree → Machine → ℕ → Progress
byte_by (Some t) m b = stuck
byte_by None m b = goes (with_atom (m.atom ++ (b ∷ [])) m.stack)

-- what a byte leads to
abbrev pub step : Here → Machine → ℕ → Progress
step h m b =
    if b == 40 then open_by m.closed (read_symbol h m.atom) m.stack
    else if b == 44 then comma_by (value_of h m) m.stack
    else if b == 41 then close_by (value_of h m) m.stack
    else byte_by m.closed m b

-- a term and what stands behind it
abbrev pub Front : Type 0
Front = Option (CodedTree × List ℕ)

-- how the machine goes on
abbrev pub then_run : Progress → (Machine → Front) → (CodedTree → Front) → Front
then_run stuck go end = None
then_run (goes m) go end = go m
then_run (ends t) go end = end t

-- at the end of the text nothing may be awaited
abbrev pub at_end : Option CodedTree → List Frame → Front
at_end None k = None
at_end (Some t) [] = Some (t, [])
at_end (Some t) (fr ∷ k) = None

-- the term at the front, up to the parenthesis that closes it, and the rest
unfoldable pub run : Here → Machine → List ℕ → Front
run h m [] = at_end (value_of h m) m.stack
run h m (b ∷ bs) = then_run (step h m b) (λ n. run h n bs) (λ t. Some (t, bs))
