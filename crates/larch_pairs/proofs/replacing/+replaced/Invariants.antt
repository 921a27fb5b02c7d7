use Rattle.std.proofs.Common.{◌≡◌, ◌*◌, ◌+◌, map, sum_by, take}
use Rattle.larch_term.specs.Substitution.{instance_of}
use Rattle.larch_term.specs.Tree.{nodes}
use Rattle.larch_pairs.proofs.replacing.+replaced.Given as goal

abbrev pub decreases-replaced : goal.decreases-replaced
decreases-replaced l = 2 * nodes l.term.now

abbrev pub decreases-replaced_all : goal.decreases-replaced_all
decreases-replaced_all l = 2 * sum_by nodes l.terms.now + 1

-- the terms so far are done
abbrev pub invariant-replaced_all-loop-term : goal.invariant-replaced_all-loop-term
invariant-replaced_all-loop-term l = l.items.items ≡ map (instance_of l.by) (take l.term-index l.terms)
