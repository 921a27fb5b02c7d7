use Rattle.std.proofs.Common.{◌≡◌, ◌++◌, ℕ, List, drop}
use Rattle.larch_sorts_counts.specs.SortsMeaningSignature.{kept_under, operators_named}
use Rattle.larch_sorts_signature.proofs.signature.by_name.Given as goal

-- the operators of each name that are kept, with those that are left, are all
abbrev pub invariant-loop-operator : goal.invariant-loop-operator
invariant-loop-operator l =
    (n : List ℕ) → kept_under l.index.entries n ++ operators_named n (drop l.operator-index l.operators)
    ≡ operators_named n l.operators
