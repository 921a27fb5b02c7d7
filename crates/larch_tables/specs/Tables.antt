-- The tables of rows, as equations between terms, and which coded rows spell them.
use Rattle.std.specs.Prelude.{◌≡◌, ℕ, Bool, true, false, if◌then◌else◌, List, [], ◌∷◌, length, take, Option, Some}
use Rattle.std.specs.Prelude.{option_map, option_and_then}
use Rattle.std.specs.List.{AllZip}
use Rattle.larch_calculus.specs.TermTree.{Tree}
use Rattle.larch_calculus.specs.TermBuiltIn.{bool_sort}
use Rattle.larch_calculus.specs.TermTruth.{truth}
use Rattle.larch_calculus.specs.TermStatementStatement.{Statement}
use Rattle.larch_calculus.specs.TermStatementStatement.TheVariants.{Equation}
use Rattle.larch_calculus.specs.Formula.{falsity, negation, conjunction, disjunction, implication, equivalence}
use Rattle.larch_calculus.specs.Formula.{equality, inequality, choice}
use Rattle.larch_tables.specs.Row.{PlainRow}
use Rattle.larch_tables.specs.Spelling.{x, y, a, b, equation_of}
use Rattle.larch_tables.specs.declared.row.Sides.{Sides}
use Rattle.larch_tables.specs.declared.row.Row.{Row}

-- an equation that is offered at Bool alone
abbrev pub at_bool : Tree → Tree → PlainRow
at_bool l r = record { sorted = false; given = Equation l r; consequences = [] }

-- an equation that is offered at every sort
abbrev pub at_each : Tree → Tree → PlainRow
at_each l r = record { sorted = true; given = Equation l r; consequences = [] }

-- the rows of built-in operators at a sort, counted from 1
abbrev pub built_in_rows : List ℕ → List PlainRow
built_in_rows s =
    -- rows 1 to 10
    at_bool (negation truth) falsity ∷
    at_bool (negation falsity) truth ∷
    at_bool (negation (negation x)) x ∷
    at_bool (conjunction truth x) x ∷
    at_bool (conjunction x truth) x ∷
    at_bool (conjunction falsity x) falsity ∷
    at_bool (conjunction x falsity) falsity ∷
    at_bool (conjunction x x) x ∷
    at_bool (disjunction truth x) truth ∷
    at_bool (disjunction x truth) truth ∷
    -- rows 11 to 20
    at_bool (disjunction falsity x) x ∷
    at_bool (disjunction x falsity) x ∷
    at_bool (disjunction x x) x ∷
    at_bool (implication truth x) x ∷
    at_bool (implication falsity x) truth ∷
    at_bool (implication x truth) truth ∷
    at_bool (implication x falsity) (negation x) ∷
    at_bool (implication x x) truth ∷
    at_bool (equivalence truth x) x ∷
    at_bool (equivalence x truth) x ∷
    -- rows 21 to 30
    at_bool (equivalence falsity x) (negation x) ∷
    at_bool (equivalence x falsity) (negation x) ∷
    at_bool (equivalence x x) truth ∷
    at_each (equality s (a s) (a s)) truth ∷
    at_bool (equality bool_sort x y) (equivalence x y) ∷
    at_each (inequality s (a s) (b s)) (negation (equality s (a s) (b s))) ∷
    at_each (choice s truth (a s) (b s)) (a s) ∷
    at_each (choice s falsity (a s) (b s)) (b s) ∷
    at_each (choice s x (a s) (a s)) (a s) ∷
    at_bool (conjunction x (negation x)) falsity ∷
    -- rows 31 to 40
    at_bool (conjunction (negation x) x) falsity ∷
    at_bool (disjunction x (negation x)) truth ∷
    at_bool (disjunction (negation x) x) truth ∷
    at_each (equality s (a s) (b s)) (equality s (b s) (a s)) ∷
    at_bool (implication (conjunction x y) x) truth ∷
    at_bool (implication (conjunction x y) y) truth ∷
    at_bool (implication x (disjunction x y)) truth ∷
    at_bool (implication y (disjunction x y)) truth ∷
    at_bool (disjunction (implication x y) x) truth ∷
    at_bool (implication y (implication x y)) truth ∷
    []

-- what follows from an equation of truth values
abbrev pub deduced_at_bool : Statement → List Statement → PlainRow
deduced_at_bool given consequences = record { sorted = false; given = given; consequences = consequences }

-- what follows from an equation at every sort
abbrev pub deduced_at_each : Statement → List Statement → PlainRow
deduced_at_each given consequences = record { sorted = true; given = given; consequences = consequences }

-- the deduction rows at a sort, in the order in which they are tried
abbrev pub deduction_rows : List ℕ → List PlainRow
deduction_rows s =
    deduced_at_bool (Equation (conjunction x y) truth) (Equation x truth ∷ Equation y truth ∷ []) ∷
    deduced_at_bool (Equation (disjunction x y) falsity) (Equation x falsity ∷ Equation y falsity ∷ []) ∷
    deduced_at_bool (Equation (negation x) truth) (Equation x falsity ∷ []) ∷
    deduced_at_bool (Equation (negation x) falsity) (Equation x truth ∷ []) ∷
    deduced_at_bool (Equation (implication x y) falsity) (Equation x truth ∷ Equation y falsity ∷ []) ∷
    deduced_at_each (Equation (equality s (a s) (b s)) truth) (Equation (a s) (b s) ∷ []) ∷
    deduced_at_bool (Equation (equivalence x y) truth) (Equation x y ∷ []) ∷
    []

-- the equations that several pairs of sides spell, where each spells one
abbrev pub equations_of : List ℕ → List Sides → Option (List Statement)
equations_of s [] = Some []
equations_of s (e ∷ es) =
    option_and_then (λ given. option_map (λ further. given ∷ further) (equations_of s es)) (equation_of s e)

-- the sort at which a row is read: Bool where it isn't offered at every sort
abbrev pub sort_for : List ℕ → Row → List ℕ
sort_for s row = if row.sorted then s else bool_sort

-- the row with this mark, this equation and these consequences, where there are both
abbrev pub row_with : Bool → Option Statement → Option (List Statement) → Option PlainRow
row_with sorted given further =
    option_and_then (λ g. option_map (λ h. record { sorted = sorted; given = g; consequences = h }) further) given

-- the row that a coded row spells at a sort
abbrev pub row_of : List ℕ → Row → Option PlainRow
row_of s row =
    row_with row.sorted (equation_of (sort_for s row) row.given)
    (equations_of (sort_for s row) (take row.count row.consequences))

-- the coded row spells a plain one at a sort, and counts its consequences
abbrev pub IsRowAt : List ℕ → Row → PlainRow → Type 0
IsRowAt s row plain = (row_of s row ≡ Some plain) × (row.count ≡ length plain.consequences)

-- at each sort the table spells these rows, one by one
abbrev pub HasRows : (List ℕ → List PlainRow) → List Row → Type 0
HasRows rows table = (s : List ℕ) → AllZip (IsRowAt s) table (rows s)
