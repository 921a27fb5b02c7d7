use Rattle.std.proofs.Common.{refl, arith}
use Rattle.larch_term.specs.OperatorKey.{same_operator}
use Rattle.larch_base.proofs.Members.{contains_none}
use Rattle.larch_term.specs.Statement.{IsStatementOver}
use Rattle.larch_term.specs.declared.statement.Statement.TheVariants.{Equation}
use Rattle.larch_calculus.specs.Formula.{constant}
use Rattle.larch_soundness.specs.Counterexamples.{term_x, term_y, no_tables, box_constant, sorted_again}
use Rattle.larch_models_meaning.specs.Examples.{two_values}
use Rattle.larch_soundness.proofs.Counterexamples.{refutes, one, constants_over}
use Rattle.larch_soundness.proofs.IllSorted.{ill_sorted_derives}
use Rattle.larch_soundness.proofs.conditions.weaken_needs_sorts.Goals as goal

pub returns : goal.returns
unfolding same_operator
returns c =
    let t = sorted_again in
    record {
      premises = record {
        included = record { operators = λ f o. absurd (contains_none f o); statements = λ s o. o };
        derived = ill_sorted_derives;
      };
      refuted = refutes two_values no_tables t (Equation term_x term_y)
          (one (IsStatementOver t.operators) (Equation (constant (box_constant 0)) (constant (box_constant 1)))
          (constants_over t.operators (box_constant 0) (box_constant 1) (0, omega arith, refl)
          (1, omega arith, refl) refl refl refl))
          refl refl;
    }
