use Rattle.std.proofs.Common.{◌≡◌, ◌≤◌, ◌+◌, drop}
use Rattle.larch_order.specs.Greater.{count_of}
use Rattle.larch_order.proofs.greater.count_of.Given as goal

-- what is counted and what is left
abbrev pub invariant-loop-other : goal.invariant-loop-other
invariant-loop-other l =
    (l.count + count_of l.term (drop l.other-index l.terms) ≡ count_of l.term l.terms) × (l.count ≤ l.other-index)
