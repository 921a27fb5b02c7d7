use Rattle.std.proofs.Common.{◌≡◌, length}
use Rattle.larch_grammar.specs.Refused.{implied_tokens}
use Rattle.larch_syntax.proofs.refused.behind_implies.Given as goal

-- behind `implies` in what is left stands what stands behind it in the whole
abbrev pub invariant-loop-rest : goal.invariant-loop-rest
invariant-loop-rest l = implied_tokens l.rest ≡ implied_tokens l.tokens

abbrev pub decreases-loop-rest : goal.decreases-loop-rest
decreases-loop-rest l = length l.rest
