use Rattle.std.proofs.Common.{◌≡◌, take, map}
use Rattle.larch_shorthand.proofs.union_.case_getters.Given as goal

-- the operators so far
abbrev pub invariant-loop-case : goal.invariant-loop-case
invariant-loop-case l = l.getters ≡ map (λ c. c.getter) (take l.case-index l.cases)
