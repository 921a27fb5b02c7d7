-- Pools are told apart by their parts.
use Rattle.std.specs.Prelude.{List, refl}
use Rattle.std.specs.Coded.{Coded, code_by, coded×, coded_list}
use Rattle.larch_term.specs.Operator.{PlainOperator, coded_operator}
use Rattle.larch_term.specs.Tree.{Tree}
use Rattle.larch_term.specs.TreeCode.{coded_tree}
use Rattle.larch_verify_pool.specs.Pooled.{Pooled}

abbrev pub coded_pooled : Coded Pooled
coded_pooled =
    code_by (List PlainOperator × List Tree) (coded× (coded_list coded_operator) (coded_list coded_tree))
    (λ p. (p.operators, p.trees)) (λ p. record { operators = p.0; trees = p.1 }) (λ _. refl)
