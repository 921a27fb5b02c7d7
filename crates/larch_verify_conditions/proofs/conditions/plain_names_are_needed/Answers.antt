use Rattle.std.proofs.Common.{◌≡◌, true, false, refl, sym, ◌∙◌, arith}
use Rattle.larch_term.specs.Equality.{same_tree, same_statement}
use Rattle.larch_term.specs.OperatorKey.{same_operator}
use Rattle.larch_term.specs.Statement.{IsStatementOver, IsWellSortedTheory}
use Rattle.larch_term.specs.declared.statement.Statement.TheVariants.{Equation}
use Rattle.larch_calculus.proofs.WellSorted.{well_sorted}
use Rattle.larch_calculus.specs.Formula.{constant}
use Rattle.larch_models_meaning.specs.Examples.{two_values}
use Rattle.larch_soundness.proofs.Computing.{holds_if}
use Rattle.larch_soundness.proofs.Counterexamples.{refutes, one, constants_over}
use Rattle.larch_soundness.proofs.Sound.{sound}
use Rattle.larch_soundness.specs.Counterexamples.{no_tables, all_nought, term_x, constant_b}
use Rattle.larch_verify_conditions.specs.Counterexamples.{first_constant, with_boxed}
use Rattle.larch_verify_conditions.proofs.conditions.plain_names_are_needed.Goals as goal

sorted : IsWellSortedTheory with_boxed
sorted =
    one (IsStatementOver with_boxed.operators) (Equation (constant first_constant) (constant constant_b))
    (constants_over with_boxed.operators first_constant constant_b (0, omega arith, refl)
    (1, omega arith, refl) refl refl
    refl)

true_false : true ≡ false → ⊥
true_false e = cc

pub returns : goal.returns
unfolding same_operator same_tree same_statement
returns c =
    let goal = Equation term_x (constant constant_b) in
    let r = refutes two_values no_tables with_boxed goal sorted refl refl in
    record {
      well_sorted = sorted;
      accepted = refl;
      underivable = λ d.
          true_false
          (sym (holds_if r.model.interpretation goal (well_sorted d) (sound d all_nought r.well_sorted r.model))
          ∙ r.fails);
    }
