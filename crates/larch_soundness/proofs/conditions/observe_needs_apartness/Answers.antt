use Rattle.std.proofs.Common.{◌≡◌, ◌≢◌, ℕ, inl, List, [], ◌∷◌, Contains, codes, Some, refl, arith, subst}
use Rattle.larch_term.specs.OperatorKey.{same_operator}
use Rattle.std.specs.List.{slice_get}
use Rattle.larch_term.specs.Operator.{PlainOperator}
use Rattle.larch_term.specs.Sorts.{sort_of, IsKnown, IsTermOver}
use Rattle.larch_term.specs.Statement.{IsStatementOver}
use Rattle.larch_term.specs.Tree.{Tree}
use Rattle.larch_term.specs.declared.statement.Statement.TheVariants.{Equation, Partitioned}
use Rattle.larch_calculus.specs.Derivable.{Derivable, axiom_}
use Rattle.larch_calculus.specs.Formula.{apply_one, apply_two}
use Rattle.larch_calculus.specs.Observation.{Observation, observations_of, observer_term, other_variables, AreDifferent}
use Rattle.larch_soundness.specs.Counterexamples.{sort_n, sort_m, term_z, named_z, operator_f, operator_g}
use Rattle.larch_soundness.specs.Counterexamples.{observer_of_pairs, observed_with_own, own_tables}
use Rattle.larch_models_meaning.specs.Examples.{two_values}
use Rattle.larch_soundness.proofs.Counterexamples.{refutes, one, both, got_one, no_pairs}
use Rattle.larch_soundness.proofs.conditions.observe_needs_apartness.Goals as goal

abbrev own : List PlainOperator
own = observed_with_own.operators

abbrev observation : Observation
observation = record { observer = observer_of_pairs; place = 1 }

f_over : IsTermOver own (apply_one operator_f term_z)
f_over = ((refl, (tt, tt)), (inl (1, omega arith, refl), (tt, tt)))

g_over : IsTermOver own (apply_one operator_g term_z)
g_over = ((refl, (tt, tt)), (inl (2, omega arith, refl), (tt, tt)))

seen_over : (t : Tree) → IsTermOver own t → sort_of t ≡ sort_n → IsTermOver own (apply_two observer_of_pairs t term_z)
seen_over t w e = ((λ i. e i ∷ sort_m ∷ [], (w.0, (tt, tt))), (inl (0, omega arith, refl), (w.1, (tt, tt))))

partitioned_over : IsStatementOver own (Partitioned sort_n (observer_of_pairs ∷ []))
partitioned_over =
    one (λ g. IsKnown own g × Contains g.domain sort_n) observer_of_pairs
    (inl (0, omega arith, refl), (0, omega arith, refl))

stated_over : IsStatementOver own
    (Equation (apply_two observer_of_pairs (apply_one operator_f term_z) term_z)
    (apply_two observer_of_pairs (apply_one operator_g term_z) term_z))
stated_over =
    (seen_over (apply_one operator_f term_z) f_over refl, seen_over (apply_one operator_g term_z) g_over refl, refl)

derived : (i : ℕ) (w : Observation) → slice_get (observations_of sort_n (observer_of_pairs ∷ [])) i ≡ Some w
    → Derivable observed_with_own
    (Equation (observer_term (named_z i) w (apply_one operator_f term_z))
    (observer_term (named_z i) w (apply_one operator_g term_z)))
derived i w e =
    subst (λ w. Derivable observed_with_own
    (Equation (observer_term (named_z i) w (apply_one operator_f term_z))
    (observer_term (named_z i) w (apply_one operator_g term_z))))
    (got_one observation w i e) (axiom_ (2, omega arith, refl) stated_over)

pub returns : goal.returns
unfolding same_operator
returns c =
    record {
      premises = record {
        partitioned = axiom_ (1, omega arith, refl) partitioned_over;
        over = (f_over, g_over, refl);
        sort = refl;
        derived = derived;
      };
      different = λ i w e. subst (λ w. AreDifferent (other_variables (named_z i) w)) (got_one observation w i e)
          (no_pairs (λ v w. v ≢ w) (record { name = codes "z"; sort = sort_m }));
      refuted = refutes two_values own_tables observed_with_own
          (Equation (apply_one operator_f term_z) (apply_one operator_g term_z))
          (both (IsStatementOver own) (Partitioned sort_n (observer_of_pairs ∷ []))
          (Equation (apply_two observer_of_pairs (apply_one operator_f term_z) term_z)
          (apply_two observer_of_pairs (apply_one operator_g term_z) term_z))
          partitioned_over stated_over) refl refl;
    }
