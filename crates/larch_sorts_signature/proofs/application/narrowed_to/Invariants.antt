use Rattle.std.proofs.Common.{◌<◌, IfSome, length}
use Rattle.larch_sorts_signature.proofs.application.narrowed_to.Given as goal

-- the choice so far is an argument, if there is one
abbrev pub invariant-loop-position : goal.invariant-loop-position
invariant-loop-position l = IfSome l.choice.position (λ position. position < length l.tables)
