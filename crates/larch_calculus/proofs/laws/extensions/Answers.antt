use Rattle.std.specs.Prelude.{◌++◌}
use Rattle.std.proofs.lemmas.List.{append-nil}
use Rattle.larch_calculus.proofs.Extended.{extended_theory, extended_twice, supposed_all}
use Rattle.larch_calculus.proofs.Sorted.{extended_well_sorted, included_more}
use Rattle.larch_calculus.proofs.laws.extensions.Goals as goal

pub returns : goal.returns
returns c =
    record {
      statements = λ t ss i. record { operators = append-nil t.operators i; statements = t.statements ++ ss };
      nothing = λ t i. record { operators = append-nil t.operators i; statements = append-nil t.statements i };
      further = extended_twice;
      well_sorted = extended_well_sorted;
      theory = extended_theory;
      included = included_more;
      hypotheses = supposed_all;
    }
