use Rattle.larch_term.specs.Statement.{statement_zero}
use Rattle.larch_term.proofs.BaseMembers.{contains_here}
use Rattle.larch_calculus.specs.Derivable.{axiom_}
use Rattle.larch_calculus.proofs.DerivedRules.{stated}
use Rattle.larch_calculus.proofs.Sorted.{zero_over}
use Rattle.larch_calculus.proofs.laws.stating.Goals as goal

pub returns : goal.returns
returns c =
    record {
      stated = stated;
      truth_values = λ t. axiom_ (contains_here statement_zero t.statements) (zero_over t.operators);
    }
