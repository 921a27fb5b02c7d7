-- What has happened up to a line of a certificate: one list of events, the newest first.
use Rattle.std.specs.Prelude.{ℕ, suc, if◌then◌else◌, List, [], ◌∷◌}
use Rattle.larch_certificate.specs.TermBuiltIn.{bool_sort}
use Rattle.larch_certificate.specs.TermOperator.{PlainOperator, boxed}
use Rattle.larch_certificate.specs.TermStatementStatement.{Statement}
use Rattle.larch_certificate.specs.declared.line.BoxPart.{BoxPart}

-- the constant of a sort with a number, of the box with a number
abbrev pub box_constant : ℕ → ℕ → List ℕ → PlainOperator
box_constant b k s = record { name = boxed b k; domain = []; range = s }

-- the predicate on a sort with a number, of the box with a number
abbrev pub box_predicate : ℕ → ℕ → List ℕ → PlainOperator
box_predicate b k s = record { name = boxed b k; domain = s ∷ []; range = bool_sort }

-- what the part with a number makes
abbrev pub part_operator : ℕ → ℕ → BoxPart → PlainOperator
part_operator b k p = if p.predicate then box_predicate b k p.sort else box_constant b k p.sort

-- what parts make, the first of which has a number
abbrev pub operators_from : ℕ → ℕ → List BoxPart → List PlainOperator
operators_from b k [] = []
operators_from b k (p ∷ ps) = part_operator b k p ∷ operators_from b (suc k) ps

-- a box: the number of the line that opens it, its parts and its hypotheses
pub record PlainBox : Type 0 where
  pub number : ℕ
  pub parts : List BoxPart
  pub hypotheses : List Statement

-- the constants and predicates of a box, counted from 1
abbrev pub operators_of : PlainBox → List PlainOperator
operators_of b = operators_from b.number 1 b.parts

-- a line with a number said a statement, a box was opened, or one was closed, of which only its result is left
pub data Event : Type 0 where
  Said : ℕ → Statement → Event
  Opened : PlainBox → Event
  Closed : PlainBox → Statement → Event

-- how many lines there were, and what happened in them; what stood in a closed box is gone
pub record State : Type 0 where
  pub count : ℕ
  pub history : List Event

-- before the first line
abbrev pub start : State
start = record { count = 0; history = [] }
