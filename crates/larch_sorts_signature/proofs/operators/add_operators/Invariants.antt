use Rattle.std.proofs.Common.{◌≡◌, ℕ, List, drop, map}
use Rattle.std.specs.List.{fold}
use Rattle.larch_sorts_signature.specs.Table.{reading_at}
use Rattle.larch_sorts_signature.specs.Operators.{with_operator}
use Rattle.larch_sorts_signature.proofs.operators.add_operators.Given as goal

-- what the operators that are left add to what is there is what all add to what was there
abbrev pub invariant-loop-operator : goal.invariant-loop-operator
invariant-loop-operator l =
    (s : List ℕ) → fold (with_operator (map (λ t. t.found.value.entries) l.tables) s) (reading_at l.entries.entries s)
    (drop l.operator-index l.operators)
    ≡ fold (with_operator (map (λ t. t.found.value.entries) l.tables) s)
    (reading_at l.initial.entries.entries s) l.operators
