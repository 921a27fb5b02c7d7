-- Operators by what references of clauses ask for.
use Rattle.std.specs.List.{list_any}
use Rattle.std.specs.Map.{lookup}
use Rattle.std.specs.Prelude.{if◌then◌else◌, Bool, List, None, Option, Some, [], find, option_map, true, ℕ, ◌&&◌, ◌≡◌}
use Rattle.larch_term.specs.Equality.{same_operator}
use Rattle.larch_term.specs.Operator.{PlainOperator}
use Rattle.larch_traits_items.specs.References.{all_same}
use Rattle.larch_traits_items.specs.declared.index.Index.{Index}
use Rattle.larch_traits_items.specs.declared.index.Seen.{Seen}

-- what was seen at a key
abbrev pub seen_at : List (PlainOperator × Seen) → PlainOperator → Option Seen
seen_at entries key = lookup (same_operator key) entries

-- the first of the operators that is so, and whether all that are so are equal to it
abbrev pub seen_among : (PlainOperator → Bool) → List PlainOperator → Option Seen
seen_among is_so fs = option_map (λ f. record { first = f; same = all_same is_so f fs }) (find is_so fs)

-- what was seen together with one operator more
abbrev pub with_seen : Option Seen → PlainOperator → Seen
with_seen None f = record { first = f; same = true }
with_seen (Some seen) f = record { first = seen.first; same = seen.same && same_operator seen.first f }

-- the one operator that was seen, if all were equal to it
abbrev pub only_seen : Option Seen → Option PlainOperator
only_seen None = None
only_seen (Some seen) = if seen.same then Some seen.first else None

-- the key of an operator's name with a sort
abbrev pub with_sort : PlainOperator → List ℕ → PlainOperator
with_sort f s = record { name = f.name; domain = []; range = s }

-- the key is the operator itself
abbrev pub is_itself : PlainOperator → PlainOperator → Bool
is_itself key f = same_operator f key

-- the key is the operator's name with its range
abbrev pub is_made : PlainOperator → PlainOperator → Bool
is_made key f = same_operator (with_sort f f.range) key

-- the key is the operator's name with a sort of its domain
abbrev pub is_taking : PlainOperator → PlainOperator → Bool
is_taking key f = list_any (λ s. same_operator (with_sort f s) key) f.domain

-- what was seen at each key are these operators
abbrev pub IsSeen : (PlainOperator → PlainOperator → Bool) → List (PlainOperator × Seen) → List PlainOperator → Type 0
IsSeen is_so entries fs = (key : PlainOperator) → seen_at entries key ≡ seen_among (is_so key) fs

-- an index of these operators
abbrev pub IsIndex : Index → List PlainOperator → Type 0
IsIndex index fs =
    IsSeen is_itself index.themselves.entries fs
    × IsSeen is_made index.made.entries fs
    × IsSeen is_taking index.taking.entries fs
