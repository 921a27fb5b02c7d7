use Rattle.std.proofs.Common.{◌≡◌, [], ◌∷◌, refl, arith}
use Rattle.larch_term.specs.OperatorKey.{same_operator}
use Rattle.larch_term.specs.Operator.{PlainOperator}
use Rattle.larch_term.specs.Tree.{Tree}
use Rattle.larch_term.specs.Statement.{IsStatementOver}
use Rattle.larch_term.specs.declared.statement.Statement.TheVariants.{Equation}
use Rattle.larch_calculus.specs.Derivable.{axiom_}
use Rattle.larch_calculus.specs.Formula.{constant}
use Rattle.larch_calculus.specs.Freed.{free_constants}
use Rattle.larch_calculus.specs.Theories.{extend}
use Rattle.larch_soundness.specs.Counterexamples.{no_tables, constant_a, constant_b, variable_x, equal_constants}
use Rattle.larch_models_meaning.specs.Examples.{two_values}
use Rattle.larch_soundness.proofs.Counterexamples.{refutes, one, constants_over}
use Rattle.larch_soundness.proofs.conditions.fresh_needs_newness.Goals as goal

pub returns : goal.returns
unfolding same_operator
returns c =
    let t = equal_constants in
    let u = extend t (constant_a ∷ []) [] in
    let side : PlainOperator → Tree = λ d. free_constants (constant_a ∷ []) (variable_x ∷ []) (constant d) in
    record {
      premises = record {
        constants = one (λ f. f.domain ≡ []) constant_a refl;
        sorts = refl;
        derived = axiom_ (1, omega arith, refl)
            (constants_over u.operators constant_a constant_b (0, omega arith, refl)
            (1, omega arith, refl) refl refl refl);
      };
      refuted = refutes two_values no_tables t (Equation (side constant_a) (side constant_b))
          (one (IsStatementOver t.operators) (Equation (constant constant_a) (constant constant_b))
          (constants_over t.operators constant_a constant_b (0, omega arith, refl)
          (1, omega arith, refl) refl refl refl))
          refl refl;
    }
