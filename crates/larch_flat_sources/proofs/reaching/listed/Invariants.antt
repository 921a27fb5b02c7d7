use Rattle.std.proofs.Common.{◌≡◌, ◌++◌}
use Rattle.larch_flat_sources.proofs.reaching.listed.Given as goal

-- the names so far, with those that are left, are all
abbrev pub invariant-loop-name : goal.invariant-loop-name
invariant-loop-name l = l.names ++ l.name-iterator ≡ l.initial.name-iterator
