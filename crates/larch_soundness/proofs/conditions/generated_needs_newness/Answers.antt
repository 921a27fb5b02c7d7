use Rattle.std.proofs.Common.{◌≡◌, inl, List, [], ◌∷◌, Contains, refl, arith}
use Rattle.larch_term.specs.OperatorKey.{same_operator}
use Rattle.larch_term.specs.Operator.{PlainOperator}
use Rattle.larch_term.specs.Sorts.{IsKnown}
use Rattle.larch_term.specs.Statement.{IsStatementOver}
use Rattle.larch_term.specs.declared.statement.Statement.TheVariants.{Equation, Generated}
use Rattle.larch_term.specs.Truth.{truth}
use Rattle.larch_calculus.specs.Derivable.{axiom_}
use Rattle.larch_calculus.specs.Formula.{apply_one}
use Rattle.larch_calculus.specs.Generation.{generation_hypotheses}
use Rattle.larch_calculus.specs.Theories.{extend}
use Rattle.larch_calculus.proofs.Sorted.{truth_over}
use Rattle.larch_soundness.specs.Counterexamples.{sort_n, constant_a, term_x, predicate, holding_everywhere}
use Rattle.larch_soundness.specs.Counterexamples.{true_tables}
use Rattle.larch_models_meaning.specs.Examples.{two_values}
use Rattle.larch_soundness.proofs.Counterexamples.{refutes, one}
use Rattle.larch_soundness.proofs.conditions.generated_needs_newness.Goals as goal

stated_over : (fs : List PlainOperator) → Contains fs predicate
    → IsStatementOver fs (Equation (apply_one predicate term_x) truth)
stated_over fs o = (((refl, (tt, tt)), (inl o, (tt, tt))), (truth_over fs).0, refl)

pub returns : goal.returns
unfolding same_operator
returns c =
    let t = holding_everywhere in
    let u = extend t (predicate ∷ []) (generation_hypotheses predicate sort_n (constant_a ∷ [])) in
    record {
      premises = record {
        over = one (λ g. IsKnown t.operators g × (g.range ≡ sort_n)) constant_a (inl (0, omega arith, refl), refl);
        domain = refl;
        range = refl;
        derived = axiom_ (1, omega arith, refl) (stated_over u.operators (1, omega arith, refl));
      };
      refuted = refutes two_values true_tables t (Generated sort_n (constant_a ∷ []))
          (one (IsStatementOver t.operators) (Equation (apply_one predicate term_x) truth)
          (stated_over t.operators (1, omega arith, refl)))
          refl refl;
    }
