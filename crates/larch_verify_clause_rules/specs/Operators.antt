-- Operators with their numbers in a pool.
use Rattle.std.specs.Prelude.{◌≡◌, List, map, slice_get, Some}
use Rattle.larch_term.specs.Operator.{PlainOperator}
use Rattle.larch_verify_pool.specs.Pooled.{Pooled}
use Rattle.larch_verify_clause_rules.specs.declared.known.Known.{Known}

-- the operator has the number
abbrev pub IsKnown : Pooled → Known → Type 0
IsKnown p k = slice_get p.operators k.number ≡ Some k.operator

-- the operators
abbrev pub operators_in : List Known → List PlainOperator
operators_in ks = map (λ k. k.operator) ks
