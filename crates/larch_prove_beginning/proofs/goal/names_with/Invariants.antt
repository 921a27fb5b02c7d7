use Rattle.std.proofs.Common.{◌≡◌, ◌∷◌, take}
use Rattle.larch_prove_beginning.proofs.goal.names_with.Given as goal

-- the names so far
abbrev pub invariant-loop-other : goal.invariant-loop-other
invariant-loop-other l = l.names.items ≡ l.name ∷ take l.other-index l.others
