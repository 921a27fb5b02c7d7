use Rattle.std.proofs.Common.{◌≡◌, ◌+◌, ◌*◌, map, take, sum_by}
use Rattle.larch_script_commands.specs.Bare.{bare_tree}
use Rattle.larch_raw.specs.RawTree.{raw_nodes}
use Rattle.larch_script_commands.proofs.equation.+same.Given as goal

-- the nodes that are left
abbrev pub decreases-same_term : goal.decreases-same_term
decreases-same_term l = 2 * raw_nodes l.left.now

abbrev pub decreases-same_terms : goal.decreases-same_terms
decreases-same_terms l = 2 * sum_by raw_nodes l.left.now + 1

-- the terms so far are equal
abbrev pub invariant-same_terms-loop-i : goal.invariant-same_terms-loop-i
invariant-same_terms-loop-i l = map bare_tree (take l.i l.terms) ≡ map bare_tree (take l.i l.others)
