use Rattle.std.proofs.Common.{◌≡◌, take}
use Rattle.larch_rewrite_match.specs.Bound.{entries_of}
use Rattle.larch_rewrite_match.proofs.patterns.written_substitution.Given as goal

-- the bindings so far are written out
abbrev pub invariant-loop-binding : goal.invariant-loop-binding
invariant-loop-binding l = l.entries ≡ entries_of (take l.binding-index l.bound)
