use Rattle.std.proofs.Common.{◌+◌, ◌*◌, sum_by, take}
use Rattle.larch_term.specs.Tree.{forest_of, nodes}
use Rattle.larch_models.specs.Stacks.{AddsAll}
use Rattle.larch_models.proofs.program.+put_term.Given as goal

abbrev pub invariant-put_terms-loop-term : goal.invariant-put_terms-loop-term
invariant-put_terms-loop-term l =
    AddsAll l.model l.variables l.initial.program.items l.program.items (forest_of (take l.term-index l.term-items))

-- a term has more nodes than its arguments together
abbrev pub decreases-put_term : goal.decreases-put_term
decreases-put_term l = 2 * nodes l.term.now

abbrev pub decreases-put_terms : goal.decreases-put_terms
decreases-put_terms l = 2 * sum_by nodes l.terms.now + 1
