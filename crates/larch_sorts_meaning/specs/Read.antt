-- What reading an equation or a lone term answers.
use Rattle.std.specs.List.{list_all}
use Rattle.std.specs.Prelude.{if◌then◌else◌, Bool, Err, List, Ok, Option, Result, [], false, find, option_map, true}
use Rattle.std.specs.Prelude.{ℕ, ◌∷◌}
use Rattle.larch_base.specs.declared.code.Code.TheVariants.{Ambiguous, NoReading, UnknownSort}
use Rattle.larch_base.specs.declared.fault.Fault.{Fault}
use Rattle.larch_base.specs.declared.position.Pos.{Pos}
use Rattle.larch_raw.specs.RawTree.{RawTree}
use Rattle.larch_raw.specs.declared.equation.RawEquation.{RawEquation}
use Rattle.larch_term.specs.Operator.{PlainOperator}
use Rattle.larch_term.specs.Tree.{Tree}
use Rattle.larch_term.specs.declared.statement.Statement.{Statement}
use Rattle.larch_term.specs.Equality.{same_statement, same_tree}
use Rattle.larch_sorts_meaning.specs.Faults.{fault, fault_at, unless}
use Rattle.larch_sorts_meaning.specs.Parts.{equation_head, head_of, in_sides, parts, sides}
use Rattle.larch_sorts_meaning.specs.ReadingLists.{equation_readings, lone_readings, readings}
use Rattle.larch_sorts_meaning.specs.Scope.{Variables}
use Rattle.larch_sorts_meaning.specs.Unknown.{unknown_sort}

-- whether nothing stands in a list
abbrev pub is_empty : {A : Type 0} → List A → Bool
is_empty [] = true
is_empty (x ∷ xs) = false

-- the head token of the first of these terms that has no reading
unfoldable pub unread_in : List PlainOperator → Variables → List RawTree → Option Pos
unread_in fs vs raws = option_map head_of (find (λ raw. is_empty (readings fs vs raw)) raws)

-- the head token of the first part without a reading, the equation itself left out
abbrev pub first_unread : List PlainOperator → Variables → RawEquation → Option Pos
first_unread fs vs raw = unread_in fs vs (in_sides parts (sides raw))

-- the one among readings, where all are equal: else there is none, or there are several
abbrev pub only : {A : Type 0} → (A → A → Bool) → RawEquation → List A → Result A Fault
only same raw [] = Err (fault NoReading (equation_head raw raw.right))
only same raw (x ∷ xs) = if list_all (same x) xs then Ok x else Err (fault Ambiguous raw.first)

-- the one of these readings of an equation, or what is wrong first
abbrev pub answer : {A : Type 0} → List PlainOperator → Variables → RawEquation → (A → A → Bool) → List A
    → Result A Fault
answer fs vs raw same found =
    unless (fault_at UnknownSort (unknown_sort fs raw))
    (unless (fault_at NoReading (first_unread fs vs raw)) (only same raw found))

-- the statement that an equation or formula reads as, or what is wrong with it first
unfoldable pub read_equation : List PlainOperator → Variables → RawEquation → Result Statement Fault
read_equation fs vs raw = answer fs vs raw same_statement (equation_readings fs vs raw)

-- the term that a lone term reads as, at a sort where one is wanted, or what is wrong with it first
unfoldable pub read_term : List PlainOperator → Variables → Option (List ℕ) → RawEquation → Result Tree Fault
read_term fs vs wanted raw = answer fs vs raw same_tree (lone_readings fs vs wanted raw)
