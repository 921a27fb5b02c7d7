use Rattle.std.proofs.Common.{◌≡◌, ◌++◌, take}
use Rattle.larch_prove_settings.proofs.constants.join.Given as goal

-- those so far stand behind
abbrev pub invariant-loop-operator : goal.invariant-loop-operator
invariant-loop-operator l = l.all ≡ l.operators ++ take l.operator-index l.further
