use Rattle.std.proofs.Common.{◌≡◌, take}
use Rattle.larch_pairs.specs.Unify.{entries_under}
use Rattle.larch_pairs_critical.proofs.naming.list_under.Given as goal

-- the entries so far are done
abbrev pub invariant-loop-entry : goal.invariant-loop-entry
invariant-loop-entry l = l.under ≡ entries_under l.by (take l.entry-index l.entries)
