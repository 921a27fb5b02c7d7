use Rattle.std.proofs.Common.{◌≡◌, take, map}
use Rattle.larch_shorthand.proofs.union_.generated.Given as goal

-- the operators so far
abbrev pub invariant-loop-case : goal.invariant-loop-case
invariant-loop-case l = l.generators ≡ map (λ c. c.injection) (take l.case-index l.cases)
