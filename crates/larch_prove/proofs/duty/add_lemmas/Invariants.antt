use Rattle.std.proofs.Common.{◌≡◌, ◌++◌, take}
use Rattle.larch_prove.proofs.duty.add_lemmas.Given as goal
use Rattle.larch_prove_beginning.specs.ProveOpeningStating.{duties_of, what_state}

-- those so far stand behind
abbrev pub invariant-loop-lemma : goal.invariant-loop-lemma
invariant-loop-lemma l = l.statements ≡ l.fn.statements ++ what_state (duties_of (take l.lemma-index l.lemmas))
