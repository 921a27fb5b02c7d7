-- The renaming that pairs of old and new sorts and operators make.
use Rattle.std.specs.Prelude.{◌≡◌, ℕ, if◌then◌else◌, List, [], ◌∷◌, map, find, bytes_eq, Option, Some, None}
use Rattle.std.specs.Prelude.{option_and_then, unwrap_or}
use Rattle.larch_term.specs.BuiltIn.{is_built_in}
use Rattle.larch_term.specs.Equality.{same_operator}
use Rattle.larch_term.specs.Operator.{OperatorName, PlainOperator, plain, boxed, name_bytes}
use Rattle.larch_renaming.specs.Renaming as maps
use Rattle.larch_import_names.specs.declared.pairs.OperatorPair.{OperatorPair}
use Rattle.larch_import_names.specs.declared.pairs.Renaming.{Renaming}
use Rattle.larch_import_names.specs.declared.pairs.SortPair.{SortPair}

-- the word, where it has letters
abbrev pub with_letters : List ℕ → Option (List ℕ)
with_letters [] = None
with_letters (c ∷ cs) = Some (c ∷ cs)

-- the new sort of a sort by the first pair for it, where that one has letters
abbrev pub paired_sort : List SortPair → List ℕ → Option (List ℕ)
paired_sort ps s = option_and_then (λ p. with_letters p.new) (find (λ p. bytes_eq p.old s) ps)

-- the new sort of a sort that is named: what has no letters stays, and nothing else becomes it
abbrev pub named_sort : Renaming → List ℕ → Option (List ℕ)
named_sort by [] = Some []
named_sort by (c ∷ cs) = paired_sort by.sorts (c ∷ cs)

-- the sort is named
abbrev pub IsNamed : Renaming → List ℕ → Type 0
IsNamed by s = (z : List ℕ) × (named_sort by s ≡ Some z)

-- the new sort of a sort, and of one that isn't named another one
abbrev pub sort_or : (List ℕ → List ℕ) → Renaming → List ℕ → List ℕ
sort_or other by s = unwrap_or (named_sort by s) (other s)

-- the name of the operator of a pair in place of a name; constants of boxes keep theirs
abbrev pub name_by : OperatorName → Option OperatorPair → OperatorName
name_by (plain n) None = plain n
name_by (plain n) (Some p) = plain (name_bytes p.new.name)
name_by (boxed b k) None = boxed b k
name_by (boxed b k) (Some p) = boxed b k

-- the new name of an operator, by the first pair for it; built-in operators keep theirs
abbrev pub new_name : Renaming → PlainOperator → OperatorName
new_name by f =
    if is_built_in f then f.name else name_by f.name (find (λ p. same_operator p.old f) by.operators)

-- the operator with its new name, at the new sorts
unfoldable pub operator_by : (List ℕ → List ℕ) → Renaming → PlainOperator → PlainOperator
operator_by sort by f = record { name = new_name by f; domain = map sort f.domain; range = sort f.range }

-- the renaming that pairs make, where sorts that aren't named become others
abbrev pub renaming_or : (List ℕ → List ℕ) → Renaming → maps.Renaming
renaming_or other by = record { sort = sort_or other by; operator = operator_by (sort_or other by) by }

-- the renaming that pairs make, where sorts that aren't named stay
abbrev pub renaming : Renaming → maps.Renaming
renaming by = renaming_or (λ s. s) by
