use Rattle.std.proofs.Common.{◌≡◌, ◌∷◌, []}
use Rattle.larch_pairs.specs.Unify.{sides_under}
use Rattle.larch_pairs.proofs.unifier.sides_under.Given as goal

-- the equations so far are done
abbrev pub invariant-loop-sides : goal.invariant-loop-sides
invariant-loop-sides l = l.under ≡ sides_under (l.entry ∷ []) l.yielded
