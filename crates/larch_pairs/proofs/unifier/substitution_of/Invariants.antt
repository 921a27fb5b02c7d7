use Rattle.std.proofs.Common.{◌≡◌, ◌++◌}
use Rattle.larch_pairs.proofs.unifier.substitution_of.Given as goal

-- the entries so far, before those that are left
abbrev pub invariant-loop-entry : goal.invariant-loop-entry
invariant-loop-entry l = (l.substitution ≡ l.yielded) × (l.fn.entries ≡ l.yielded ++ l.entry-iterator.rest.items)
