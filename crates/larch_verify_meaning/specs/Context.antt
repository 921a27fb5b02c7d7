-- What can be named where events have happened: lines, boxes and symbols.
use Rattle.std.specs.Prelude.{ℕ, ◌==◌, ◌-◌, if◌then◌else◌, List, [], ◌∷◌, length, get_or, Option, Some, None}
use Rattle.std.specs.Prelude.{option_and_then}
use Rattle.larch_certificate.specs.BaseByNumber.{numbered}
use Rattle.larch_certificate.specs.TermBuiltIn.{built_in}
use Rattle.larch_certificate.specs.TermOperator.{PlainOperator}
use Rattle.larch_certificate.specs.TermStatementStatement.{Statement}
use Rattle.larch_certificate.specs.TermStatementTheory.{Theory}
use Rattle.larch_tables.specs.CalculusTheories.{extend}
use Rattle.larch_certificate.specs.declared.symbol.Symbol.{Symbol}
use Rattle.larch_certificate.specs.declared.symbol.Symbol.TheVariants.{Own, Constant, BuiltIn}
use Rattle.larch_verify_meaning.specs.Events.{PlainBox, operators_of, Event, Said, Opened, Closed}

-- the theory with the constants, predicates and hypotheses of all open boxes
abbrev pub theory_of : Theory → List Event → Theory
theory_of t [] = t
theory_of t (Said n s ∷ h) = theory_of t h
theory_of t (Opened b ∷ h) = extend (theory_of t h) (operators_of b) b.hypotheses
theory_of t (Closed b s ∷ h) = theory_of t h

-- what the line with a number said, if it stands in an open box or in none
abbrev pub find_line : List Event → ℕ → Option Statement
find_line [] m = None
find_line (Said n s ∷ h) m = if n == m then Some s else find_line h m
find_line (Opened b ∷ h) m = find_line h m
find_line (Closed b s ∷ h) m = find_line h m

-- the open box with a number
abbrev pub find_open : List Event → ℕ → Option PlainBox
find_open [] m = None
find_open (Said n s ∷ h) m = find_open h m
find_open (Opened b ∷ h) m = if b.number == m then Some b else find_open h m
find_open (Closed b s ∷ h) m = find_open h m

-- the closed box with a number, and its result, if it was opened where exactly the present boxes were open
abbrev pub find_closed : List Event → ℕ → Option (PlainBox × Statement)
find_closed [] m = None
find_closed (Said n s ∷ h) m = find_closed h m
find_closed (Opened b ∷ h) m = None
find_closed (Closed b s ∷ h) m = if b.number == m then Some (b, s) else find_closed h m

-- the innermost open box, and what had happened before it
abbrev pub innermost : List Event → Option (PlainBox × List Event)
innermost [] = None
innermost (Said n s ∷ h) = innermost h
innermost (Opened b ∷ h) = Some (b, h)
innermost (Closed b s ∷ h) = innermost h

-- the sort of the last argument: at which a built-in operator stands, if it stands at one
abbrev pub last_sort : List (List ℕ) → List ℕ
last_sort sorts = get_or sorts (length sorts - 1) []

-- the operator that a symbol means before arguments of these sorts: one of the theory's, one of an open box, or a
-- built-in one
abbrev pub find_symbol : Theory → List Event → Symbol → List (List ℕ) → Option PlainOperator
find_symbol t h (Own k) sorts = numbered t.operators k
find_symbol t h (Constant b k) sorts = option_and_then (λ box. numbered (operators_of box) k) (find_open h b)
find_symbol t h (BuiltIn b) sorts = Some (built_in b (last_sort sorts))
