use Rattle.std.proofs.Common.{◌≡◌, [], drop, fold}
use Rattle.larch_flat_meaning.specs.Gathered.{with_operator}
use Rattle.larch_duties.proofs.among.index_of.Given as goal

-- what the operators that are left make of those so far is the whole
abbrev pub invariant-loop-operator : goal.invariant-loop-operator
invariant-loop-operator l =
    fold with_operator l.index.keys (drop l.operator-index l.operators) ≡ fold with_operator [] l.operators
