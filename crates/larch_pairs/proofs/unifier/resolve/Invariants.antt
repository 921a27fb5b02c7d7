use Rattle.std.proofs.Common.{◌≡◌, ◌≤◌, false, drop, length, take}
use Rattle.std.specs.List.{list_any}
use Rattle.larch_pairs.specs.Resolved.{resolve}
use Rattle.larch_pairs.specs.Unify.{is_large}
use Rattle.larch_pairs.proofs.unifier.resolve.Given as goal

-- the last bindings are done, and none of their terms is too large; the others are as they were
abbrev pub invariant-loop-left : goal.invariant-loop-left
invariant-loop-left l =
    (drop l.left l.bound.items ≡ resolve (drop l.left l.initial.bound.items))
    × (take l.left l.bound.items ≡ take l.left l.initial.bound.items)
    × (list_any (λ b. is_large b.term) (resolve (drop l.left l.initial.bound.items)) ≡ false)
    × (l.left ≤ length l.initial.bound.items)
    × (length l.bound.items ≡ length l.initial.bound.items)

abbrev pub decreases-loop-left : goal.decreases-loop-left
decreases-loop-left l = l.left
