-- The precedence: the operators from low to high, each with its status.
use Rattle.std.specs.Prelude.{◌≡◌, ℕ, ◌+◌, Bool, false, if◌then◌else◌, nat_lt, List, [], ◌∷◌, ◌++◌, map, get_or, set}
use Rattle.std.specs.Prelude.{Option, Some, None, is_some}
use Rattle.std.specs.List.{list_any, position, insert, remove}
use Rattle.std.specs.Map.{lookup}
use Rattle.larch_term.specs.Operator.{PlainOperator}
use Rattle.larch_sorts_known.specs.BuiltIns.{built_ins_at}
use Rattle.larch_term.specs.BuiltIn.{is_built_in}
use Rattle.larch_sorts_known.specs.Sorts.{existing_sorts}
use Rattle.larch_term.specs.Equality.{same_operator}
use Rattle.larch_base.specs.declared.way.Way.{Way}
use Rattle.larch_base.specs.declared.way.Way.TheVariants.{LeftToRight}
use Rattle.larch_order.specs.declared.precedence.Ranked.{Ranked}

-- whether an entry of the list is that of an operator
abbrev pub is_of : PlainOperator → Ranked → Bool
is_of f r = same_operator r.operator f

-- the height of an operator in the list, 0 being the lowest, if it is there
abbrev pub height_of : List Ranked → PlainOperator → Option ℕ
height_of ranks f = position (is_of f) ranks

-- an index of the list: it has the height of each operator that is there, and no other operator
abbrev pub IsIndex : List (PlainOperator × ℕ) → List Ranked → Type 0
IsIndex heights ranks = (f : PlainOperator) → lookup (same_operator f) heights ≡ height_of ranks f

-- whether an operator is in the list
abbrev pub has : List Ranked → PlainOperator → Bool
has ranks f = is_some (height_of ranks f)

-- whether a height is a higher one than another
abbrev pub is_higher : Option ℕ → Option ℕ → Bool
is_higher None height = false
is_higher (Some i) None = false
is_higher (Some i) (Some j) = nat_lt j i

-- whether an operator is above another; one that isn't in the list is above none and below none
abbrev pub above : List Ranked → PlainOperator → PlainOperator → Bool
above ranks f g = is_higher (height_of ranks f) (height_of ranks g)

-- a new operator's entry: its status is left-to-right
abbrev pub new_rank : PlainOperator → Ranked
new_rank f = record { operator = f; status = LeftToRight }

-- the entry at a height, or that of a new operator where there is no height
abbrev pub entry_at : List Ranked → PlainOperator → Option ℕ → Ranked
entry_at ranks f None = new_rank f
entry_at ranks f (Some i) = get_or ranks i (new_rank f)

-- the status of an operator: left-to-right where it isn't in the list
abbrev pub status_of : List Ranked → PlainOperator → Way
status_of ranks f = (entry_at ranks f (height_of ranks f)).status

-- the precedence of a theory with these operators: the built-in operators, and above them the theory's in order
abbrev pub precedence_of : List PlainOperator → List Ranked
precedence_of fs = map new_rank (built_ins_at (existing_sorts fs) ++ fs)

-- the height directly above the last built-in operator, the lowest where there is none
abbrev pub above_built_ins : List Ranked → ℕ
above_built_ins [] = 0
above_built_ins (r ∷ ranks) =
    if list_any (λ q. is_built_in q.operator) (r ∷ ranks) then 1 + above_built_ins ranks else 0

-- the list with a new operator there
abbrev pub with_constant : List Ranked → PlainOperator → List Ranked
with_constant ranks f = insert ranks (above_built_ins ranks) (new_rank f)

-- the list with the entry at a first height moved directly above the one at a second, unless that is below it
abbrev pub moved_above : List Ranked → PlainOperator → Option ℕ → Option ℕ → List Ranked
moved_above ranks f None height = ranks
moved_above ranks f (Some i) None = ranks
moved_above ranks f (Some i) (Some j) =
    if nat_lt i j then insert (remove ranks i) j (get_or ranks i (new_rank f)) else ranks

-- the list after a first operator was registered as higher than a second: where it was the lower one it stands
-- directly above it, else nothing changes
abbrev pub raise : List Ranked → PlainOperator → PlainOperator → List Ranked
raise ranks f g = moved_above ranks f (height_of ranks f) (height_of ranks g)

-- the list with another status at a height
abbrev pub with_status_at : List Ranked → PlainOperator → Way → Option ℕ → List Ranked
with_status_at ranks f way None = ranks
with_status_at ranks f way (Some i) = set ranks i (record { operator = f; status = way })

-- the list with another status for an operator
abbrev pub with_status : List Ranked → PlainOperator → Way → List Ranked
with_status ranks f way = with_status_at ranks f way (height_of ranks f)
