use Rattle.std.proofs.Common.{take, All}
use Rattle.larch_verify_meaning.specs.CalculusRenaming.{IsPlainName}
use Rattle.larch_derive.proofs.builder.names_are_plain.Given as goal

-- the names so far are bytes
abbrev pub invariant-loop-operator : goal.invariant-loop-operator
invariant-loop-operator l = All (λ f. IsPlainName f.name) (take l.operator-index l.operators)
