use Rattle.std.proofs.Common.{◌≡◌, map, take}
use Rattle.larch_flat_meaning.specs.Replacements.{new_operator}
use Rattle.larch_flat_replacing.proofs.new_names.NewNames.operators.Given as goal

-- the operators so far are new
abbrev pub invariant-loop-operator : goal.invariant-loop-operator
invariant-loop-operator l = l.new ≡ map (new_operator l.self) (take l.operator-index l.operators)
