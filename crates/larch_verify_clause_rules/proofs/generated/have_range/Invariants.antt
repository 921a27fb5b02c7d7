use Rattle.std.proofs.Common.{◌≡◌, bytes_eq, drop}
use Rattle.std.specs.List.{list_all}
use Rattle.larch_verify_clause_rules.specs.Operators.{operators_in}
use Rattle.larch_verify_clause_rules.proofs.generated.have_range.Given as goal

abbrev pub invariant-loop-known : goal.invariant-loop-known
invariant-loop-known l =
    list_all (λ f. bytes_eq f.range l.sort) (operators_in l.operators)
    ≡ list_all (λ f. bytes_eq f.range l.sort) (operators_in (drop l.known-index l.operators))
