use Rattle.std.proofs.Common.{◌≡◌, map, take}
use Rattle.larch_import_references.specs.Pairs.{operator_pair}
use Rattle.larch_import_references.proofs.pairs.operator_pairs.Given as goal

-- the pairs so far
abbrev pub invariant-loop-operator : goal.invariant-loop-operator
invariant-loop-operator l = l.pairs ≡ map (operator_pair l.by) (take l.operator-index l.operators)
