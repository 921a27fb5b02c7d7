use Rattle.std.proofs.Common.{◌≡◌, ◌≤◌, suc, drop, length}
use Rattle.std.specs.Map.{lookup}
use Rattle.larch_term.specs.Operator.{PlainOperator}
use Rattle.larch_term.specs.OperatorKey.{same_operator}
use Rattle.larch_derive.specs.OpenBox.{place_from}
use Rattle.larch_derive.proofs.shared_theory.places_in.Given as goal

-- the operators from the place on have their places
abbrev pub invariant-loop-place : goal.invariant-loop-place
invariant-loop-place l =
    ((f : PlainOperator) → lookup (same_operator f) l.places.entries
    ≡ place_from (suc l.place) (drop l.place l.operators) f)
    × (l.place ≤ length l.operators)

abbrev pub decreases-loop-place : goal.decreases-loop-place
decreases-loop-place l = l.place
