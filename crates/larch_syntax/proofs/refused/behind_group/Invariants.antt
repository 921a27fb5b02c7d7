use Rattle.std.proofs.Common.{◌≡◌, length}
use Rattle.larch_grammar.specs.Leading.{behind_group}
use Rattle.larch_grammar.specs.Refused.{known}
use Rattle.larch_syntax.proofs.refused.behind_group.Given as goal

-- behind what is left stands what stands behind the whole
abbrev pub invariant-loop-rest : goal.invariant-loop-rest
invariant-loop-rest l = behind_group known l.inside l.rest ≡ behind_group known 0 l.tokens

abbrev pub decreases-loop-rest : goal.decreases-loop-rest
decreases-loop-rest l = length l.rest
