use Rattle.std.proofs.Common.{◌≡◌, drop}
use Rattle.larch_syntax.specs.Read.{longest}
use Rattle.larch_syntax.proofs.read.longest_front.Given as goal

-- what is left goes on from here as all tokens do from the first of them
abbrev pub invariant-loop-taken : goal.invariant-loop-taken
invariant-loop-taken l =
    longest l.lists l.heads l.taken l.state (drop l.taken l.tokens) ≡ longest l.lists 0 0 l.initial.state l.tokens
