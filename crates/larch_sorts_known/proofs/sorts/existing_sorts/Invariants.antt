use Rattle.std.proofs.Common.{◌≡◌, ◌++◌, ◌∷◌, [], drop}
use Rattle.std.specs.List.{fold, flat_map}
use Rattle.larch_sorts_known.specs.Sorts.{with_sort, existing_sorts}
use Rattle.larch_sorts_known.proofs.sorts.existing_sorts.Given as goal

-- the sorts of the operators that are left, put behind those that are there, are all
abbrev pub invariant-loop-operator : goal.invariant-loop-operator
invariant-loop-operator l =
    fold with_sort l.sorts (flat_map (λ f. f.domain ++ f.range ∷ []) (drop l.operator-index l.operators))
    ≡ existing_sorts l.operators
