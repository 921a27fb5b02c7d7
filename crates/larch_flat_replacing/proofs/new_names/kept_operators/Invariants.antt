use Rattle.larch_flat_replacing.specs.Kept.{KeepsNew}
use Rattle.larch_flat_replacing.proofs.new_names.kept_operators.Given as goal

-- what is kept so far is new
abbrev pub invariant-loop-operator : goal.invariant-loop-operator
invariant-loop-operator l = KeepsNew l.by l.kept.entries
