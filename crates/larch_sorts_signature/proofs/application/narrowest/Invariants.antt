use Rattle.std.proofs.Common.{◌<◌, IfSome, length}
use Rattle.larch_sorts_signature.proofs.application.narrowest.Given as goal

-- the choice so far is an argument, if there is one
abbrev pub invariant-loop-limit : goal.invariant-loop-limit
invariant-loop-limit l = IfSome l.choice.position (λ position. position < length l.tables)
