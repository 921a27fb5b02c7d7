use Rattle.std.proofs.Common.{◌≡◌, [], ◌∷◌, refl, arith}
use Rattle.larch_term.specs.OperatorKey.{same_operator}
use Rattle.larch_term.specs.declared.statement.Statement.TheVariants.{Partitioned}
use Rattle.larch_calculus.specs.Derivable.{axiom_}
use Rattle.larch_calculus.specs.Formula.{constant}
use Rattle.larch_calculus.specs.Generation.{place_name}
use Rattle.larch_calculus.specs.Observation.{observations}
use Rattle.larch_calculus.specs.Theories.{extend}
use Rattle.larch_soundness.specs.Counterexamples.{sort_n, constant_a, constant_b, predicate, no_tables, alike}
use Rattle.larch_models_meaning.specs.Examples.{two_values}
use Rattle.larch_soundness.proofs.Counterexamples.{refutes, both, constants_over, names_differ, alike_well_sorted}
use Rattle.larch_soundness.proofs.Counterexamples.{predicate_over}
use Rattle.larch_soundness.proofs.conditions.partitioned_needs_newness.Goals as goal

pub returns : goal.returns
unfolding same_operator
returns c =
    let cs = constant_a ∷ constant_b ∷ [] in
    let u = extend alike cs
    (observations place_name sort_n (predicate ∷ []) (constant constant_a) (constant constant_b)) in
    record {
      premises = record {
        over = predicate_over;
        constants = both (λ f. f.domain ≡ []) constant_a constant_b refl refl;
        first_sort = refl;
        second_sort = refl;
        derived = axiom_ (1, omega arith, refl)
            (constants_over u.operators constant_a constant_b (0, omega arith, refl)
            (1, omega arith, refl) refl refl refl);
      };
      different = names_differ;
      refuted = refutes two_values no_tables alike (Partitioned sort_n (predicate ∷ [])) alike_well_sorted refl refl;
    }
