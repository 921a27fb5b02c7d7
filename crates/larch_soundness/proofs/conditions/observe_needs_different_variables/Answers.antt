use Rattle.std.proofs.Common.{◌≡◌, ℕ, inl, List, [], ◌∷◌, Contains, Some, refl, arith, subst}
use Rattle.larch_term.specs.OperatorKey.{same_operator}
use Rattle.std.specs.List.{slice_get}
use Rattle.larch_base.proofs.Lists.{all_from}
use Rattle.larch_base.proofs.Members.{contains_none}
use Rattle.larch_term.specs.Operator.{PlainOperator}
use Rattle.larch_term.specs.Variable.{occurrences}
use Rattle.larch_term.specs.Sorts.{IsKnown, IsTermOver}
use Rattle.larch_term.specs.Statement.{IsStatementOver}
use Rattle.larch_term.specs.declared.statement.Statement.TheVariants.{Equation, Partitioned}
use Rattle.larch_term.specs.declared.variable.Variable.{Variable}
use Rattle.larch_calculus.specs.Derivable.{Derivable, axiom_}
use Rattle.larch_calculus.specs.Formula.{constant}
use Rattle.larch_calculus.specs.Observation.{Observation, observations_of, observer_term, other_variables}
use Rattle.larch_soundness.specs.Conditions.{OccursNot}
use Rattle.larch_soundness.specs.Counterexamples.{sort_n, sort_m, constant_a, constant_b, named_z, observer_of_triples}
use Rattle.larch_soundness.specs.Counterexamples.{observed_twice, observed_with_one, one_tables}
use Rattle.larch_models_meaning.specs.Examples.{two_values}
use Rattle.larch_soundness.proofs.Counterexamples.{refutes, one, both, got_one, constants_over}
use Rattle.larch_soundness.proofs.conditions.observe_needs_different_variables.Goals as goal

abbrev own : List PlainOperator
own = observed_with_one.operators

abbrev observation : Observation
observation = record { observer = observer_of_triples; place = 1 }

sides_over : IsStatementOver own (Equation (constant constant_a) (constant constant_b))
sides_over = constants_over own constant_a constant_b (1, omega arith, refl) (2, omega arith, refl) refl refl refl

partitioned_over : IsStatementOver own (Partitioned sort_n (observer_of_triples ∷ []))
partitioned_over =
    one (λ g. IsKnown own g × Contains g.domain sort_n) observer_of_triples
    (inl (0, omega arith, refl), (0, omega arith, refl))

twice_over : (d : PlainOperator) → IsTermOver own (constant d) → d.range ≡ sort_n → IsTermOver own (observed_twice d)
twice_over d w e = (
  (λ i. e i ∷ sort_m ∷ sort_m ∷ [], (w.0, (tt, (tt, tt)))),
  (inl (0, omega arith, refl), (w.1, (tt, (tt, tt)))),
)

stated_over : IsStatementOver own (Equation (observed_twice constant_a) (observed_twice constant_b))
stated_over = (twice_over constant_a sides_over.0 refl, twice_over constant_b sides_over.1 refl, refl)

derived : (i : ℕ) (w : Observation) → slice_get (observations_of sort_n (observer_of_triples ∷ [])) i ≡ Some w
    → Derivable observed_with_one
    (Equation (observer_term (named_z i) w (constant constant_a)) (observer_term (named_z i) w (constant constant_b)))
derived i w e =
    subst (λ w. Derivable observed_with_one
    (Equation (observer_term (named_z i) w (constant constant_a)) (observer_term (named_z i) w (constant constant_b))))
    (got_one observation w i e) (axiom_ (2, omega arith, refl) stated_over)

-- nothing occurs in a constant
occurs_not : (vs : List Variable) (d : PlainOperator) → OccursNot vs (constant d)
occurs_not vs d = all_from (λ v. Contains (occurrences (constant d)) v → ⊥) vs (λ v c o. contains_none v o)

pub returns : goal.returns
unfolding same_operator
returns c =
    record {
      premises = record {
        partitioned = axiom_ (1, omega arith, refl) partitioned_over;
        over = sides_over;
        sort = refl;
        derived = derived;
      };
      left = λ i w e. occurs_not (other_variables (named_z i) w) constant_a;
      right = λ i w e. occurs_not (other_variables (named_z i) w) constant_b;
      refuted = refutes two_values one_tables observed_with_one (Equation (constant constant_a) (constant constant_b))
          (both (IsStatementOver own) (Partitioned sort_n (observer_of_triples ∷ []))
          (Equation (observed_twice constant_a) (observed_twice constant_b)) partitioned_over stated_over) refl refl;
    }
