use Rattle.std.proofs.Common.{◌≡◌, ◌+◌, ◌≤◌, drop, length}
use Rattle.std.specs.Map.{lookup}
use Rattle.std.specs.Option.{option_map}
use Rattle.larch_term.specs.Operator.{PlainOperator}
use Rattle.larch_term.specs.Equality.{same_operator}
use Rattle.larch_order.specs.Precedence.{height_of}
use Rattle.larch_order.proofs.precedence.index_of.Given as goal

-- the entries from the height on have their heights
abbrev pub invariant-loop-height : goal.invariant-loop-height
invariant-loop-height l =
    ((f : PlainOperator) → lookup (same_operator f) l.heights.entries
    ≡ option_map (λ k. l.height + k) (height_of (drop l.height l.ranks) f))
    × (l.height ≤ length l.ranks)

abbrev pub decreases-loop-height : goal.decreases-loop-height
decreases-loop-height l = l.height
