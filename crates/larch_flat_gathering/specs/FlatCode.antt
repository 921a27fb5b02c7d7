-- What is gathered is told apart by its parts.
use Rattle.std.specs.Prelude.{Bool, List, refl}
use Rattle.std.specs.Coded.{Coded, code_by, coded×, coded_bool, coded_list}
use Rattle.larch_term.specs.Operator.{PlainOperator, coded_operator}
use Rattle.larch_term.specs.declared.statement.Statement.{Statement}
use Rattle.larch_flat_statements.specs.FlatMeaningGathered.{Gathered, Marked}
use Rattle.larch_flat_statements.specs.MarkedCode.{coded_marked, coded_statement}
use Rattle.larch_flat_gathering.specs.Keeping.{Gathering}

abbrev pub coded_gathered : Coded Gathered
coded_gathered =
    code_by (List PlainOperator × (List Marked × List Statement))
    (coded× (coded_list coded_operator) (coded× (coded_list coded_marked) (coded_list coded_statement)))
    (λ g. (g.operators, (g.marked, g.discharge)))
    (λ p. record { operators = p.0; marked = p.1.0; discharge = p.1.1 }) (λ _. refl)

abbrev pub coded_store : Coded Gathering
coded_store =
    code_by (Gathered × Bool) (coded× coded_gathered coded_bool)
    (λ s. (s.gathered, s.full)) (λ p. record { gathered = p.0; full = p.1 }) (λ _. refl)
