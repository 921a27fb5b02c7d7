use Rattle.std.proofs.Common.{◌≡◌, inl, [], ◌∷◌, refl, arith}
use Rattle.larch_term.specs.OperatorKey.{same_operator}
use Rattle.larch_term.specs.declared.statement.Statement.TheVariants.{Partitioned}
use Rattle.larch_calculus.specs.Derivable.{reflexive}
use Rattle.larch_calculus.specs.Theories.{IsNewName}
use Rattle.larch_calculus.proofs.Names.{box_is_new}
use Rattle.larch_soundness.specs.Counterexamples.{sort_n, predicate, no_tables, alike, box_constant}
use Rattle.larch_models_meaning.specs.Examples.{two_values}
use Rattle.larch_soundness.proofs.Counterexamples.{refutes, both, alike_well_sorted, predicate_over}
use Rattle.larch_soundness.proofs.conditions.partitioned_needs_different_constants.Goals as goal

pub returns : goal.returns
unfolding same_operator
returns c =
    let d = box_constant 0 in
    record {
      premises = record {
        over = predicate_over;
        constants = both (λ f. f.domain ≡ []) d d refl refl;
        first_sort = refl;
        second_sort = refl;
        derived = reflexive ((refl, tt), (inl (3, omega arith, refl), tt));
      };
      new = both (λ f. IsNewName alike f.name) d d (box_is_new alike.operators 0) (box_is_new alike.operators 0);
      refuted = refutes two_values no_tables alike (Partitioned sort_n (predicate ∷ [])) alike_well_sorted refl refl;
    }
