use Rattle.std.proofs.Common.{◌≡◌, map, take}
use Rattle.larch_term.specs.Substitution.{instance_of}
use Rattle.larch_term.proofs.substitution.+substitute.Given as goal

-- the terms so far are substituted
abbrev pub invariant-substitute_all-loop-term : goal.invariant-substitute_all-loop-term
invariant-substitute_all-loop-term l = l.items.items ≡ map (instance_of l.by) (take l.term-index l.term-items)
