-- The sorts that exist beside operators.
use Rattle.std.specs.Prelude.{ℕ, Bool, if◌then◌else◌, List, [], ◌∷◌, ◌++◌, fold, bytes_eq}
use Rattle.std.specs.List.{list_any, flat_map}
use Rattle.larch_term.specs.Operator.{PlainOperator}
use Rattle.larch_term.specs.BuiltIn.{bool_sort}

-- the sorts with one more behind them, unless it is there
abbrev pub with_sort : List (List ℕ) → List ℕ → List (List ℕ)
with_sort sorts s = if list_any (bytes_eq s) sorts then sorts else (sorts ++ s ∷ [])

-- Bool, and the other sorts of operators in the order in which each occurs first in their domains and ranges
abbrev pub existing_sorts : List PlainOperator → List (List ℕ)
existing_sorts fs = fold with_sort (bool_sort ∷ []) (flat_map (λ f. f.domain ++ f.range ∷ []) fs)

-- whether a sort exists
abbrev pub exists_sort : List PlainOperator → List ℕ → Bool
exists_sort fs s = list_any (bytes_eq s) (existing_sorts fs)
