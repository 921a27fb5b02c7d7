use Rattle.std.proofs.Common.{inr, [], ◌∷◌, All, codes, refl, arith}
use Rattle.larch_term.specs.OperatorKey.{same_operator}
use Rattle.larch_term.specs.Sorts.{IsOver, IsTermOver}
use Rattle.larch_term.specs.declared.built_in.BuiltIn.TheVariants.{Equal}
use Rattle.larch_term.specs.declared.substitution.Entry.{Entry}
use Rattle.larch_term.specs.declared.statement.Statement.TheVariants.{Equation}
use Rattle.larch_term.specs.Truth.{truth}
use Rattle.larch_calculus.specs.Derivable.{Derivable, axiom_, identity, equal, instance, symmetric}
use Rattle.larch_calculus.specs.Example.{number_sort, numbers, nought, x_number}
use Rattle.larch_calculus.specs.Formula.{falsity, constant, equality}
use Rattle.larch_calculus.specs.Generation.{only}
use Rattle.larch_calculus.specs.Identity.{equal_itself}
use Rattle.larch_calculus.specs.Theories.{with_statements}
use Rattle.larch_calculus.proofs.DerivedRules.{transitive, all_equal}
use Rattle.larch_calculus.proofs.Sorted.{truth_over, falsity_over, only_fits}
use Rattle.larch_soundness.specs.Counterexamples.{x_is_nought}
use Rattle.larch_models_meaning.specs.Examples.{two_values, bits, sum_of_bits}
use Rattle.larch_soundness.proofs.Counterexamples.{refutes, one, has_nought, numbers_well_sorted}
use Rattle.larch_soundness.proofs.conditions.cases_need_closedness.Goals as goal

nought_over : IsTermOver numbers.operators (constant nought)
nought_over = ((refl, tt), (has_nought, tt))

formula_over : IsTermOver numbers.operators x_is_nought
formula_over = ((refl, (tt, ((refl, tt), tt))), (inr (Equal, (number_sort, refl)), (tt, ((has_nought, tt), tt))))

-- with 0 for x the formula, said to be false, is true
if_false : Derivable (with_statements numbers (Equation x_is_nought falsity ∷ [])) (Equation x_number (constant nought))
if_false =
    let t = with_statements numbers (Equation x_is_nought falsity ∷ []) in
    let es = only (codes "x") number_sort (constant nought) in
    let fits = only_fits (codes "x") number_sort (constant nought) nought_over.0 refl in
    let entry : Entry = record { name = codes "x"; sort = number_sort; term = constant nought } in
    let over : All (λ e. IsOver t.operators e.term) es = one (λ e. IsOver t.operators e.term) entry nought_over.1 in
    let same = equality number_sort (constant nought) (constant nought) in
    let no : Derivable t (Equation same falsity) =
    instance es fits over
    (axiom_ (4, omega arith, refl) (formula_over, (falsity_over numbers.operators).0, refl)) refl refl in
    let yes : Derivable t (Equation same truth) =
    instance es fits over (identity (equal_itself number_sort (codes "x") refl refl)) refl refl in
    all_equal (transitive (symmetric yes) no) ((tt, tt), nought_over, refl)

pub returns : goal.returns
unfolding same_operator
returns c =
    record {
      premises = record {
        over = formula_over;
        sort = refl;
        if_true = equal number_sort
            (axiom_ (4, omega arith, refl) (formula_over, (truth_over numbers.operators).0, refl));
        if_false = if_false;
      };
      refuted = refutes two_values (bits sum_of_bits) numbers
          (Equation x_number (constant nought)) numbers_well_sorted refl refl;
    }
