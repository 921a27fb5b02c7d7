use Rattle.std.proofs.Common.{◌≡◌, bytes_eq, drop}
use Rattle.std.specs.List.{list_all, list_any}
use Rattle.larch_verify_clause_rules.specs.Operators.{operators_in}
use Rattle.larch_verify_clause_rules.proofs.partitioned.take_sort.Given as goal

abbrev pub invariant-loop-known : goal.invariant-loop-known
invariant-loop-known l =
    list_all (λ o. list_any (bytes_eq l.sort) o.domain) (operators_in l.operators)
    ≡ list_all (λ o. list_any (bytes_eq l.sort) o.domain) (operators_in (drop l.known-index l.operators))
