use Rattle.std.proofs.Common.{◌≡◌, ℕ, zero, suc, inl, List, [], ◌∷◌, ◌++◌, map, All, codes, Some, refl, ap, subst}
use Rattle.std.proofs.Common.{arith}
use Rattle.larch_term.specs.OperatorKey.{same_operator}
use Rattle.std.specs.List.{slice_get}
use Rattle.std.proofs.lemmas.List.Elements.{All-nil, All-cons}
use Rattle.larch_base.proofs.Options.{some_inj}
use Rattle.larch_term.specs.Operator.{PlainOperator}
use Rattle.larch_term.specs.Sorts.{sort_of, IsKnown, IsOver, IsTermOver}
use Rattle.larch_term.specs.Statement.{IsStatementOver}
use Rattle.larch_term.specs.Tree.{Tree, app}
use Rattle.larch_term.specs.declared.substitution.Entry.{Entry}
use Rattle.larch_term.specs.declared.statement.Statement.TheVariants.{Generated}
use Rattle.larch_calculus.specs.Derivable.{Derivable, axiom_, instance}
use Rattle.larch_calculus.specs.Formula.{constant, apply_one, apply_two}
use Rattle.larch_calculus.specs.Generation.{only, constant_terms, equation_at, induction_hypotheses}
use Rattle.larch_calculus.specs.Theories.{IsNewName, AreConstants, extend}
use Rattle.larch_calculus.proofs.Names.{box_is_new}
use Rattle.larch_calculus.proofs.Sorted.{only_fits}
use Rattle.larch_soundness.specs.Counterexamples.{sort_n, constant_a, constant_b, term_x, operator_p, operator_q}
use Rattle.larch_soundness.specs.Counterexamples.{sent_to_a, equal_pairs, pair_tables, box_constant, one_twice}
use Rattle.larch_soundness.proofs.Counterexamples.{refutes, one, both}
use Rattle.larch_soundness.proofs.conditions.induct_needs_different_constants.Goals as goal

abbrev own : List PlainOperator
own = equal_pairs.operators

-- q of a term is well sorted, over the theory's operators and further ones
sent_over : (cs : List PlainOperator) (t : Tree) → IsTermOver (own ++ cs) t → sort_of t ≡ sort_n
    → IsStatementOver (own ++ cs) (sent_to_a t)
sent_over cs t w e = (
  ((λ i. e i ∷ [], (w.0, tt)), (inl (3, omega arith, refl), (w.1, tt))),
  ((refl, tt), (inl (0, omega arith, refl), tt)),
  refl,
)

a_over : (cs : List PlainOperator) → IsTermOver (own ++ cs) (constant constant_a)
a_over cs = ((refl, tt), (inl (0, omega arith, refl), tt))

b_over : (cs : List PlainOperator) → IsTermOver (own ++ cs) (constant constant_b)
b_over cs = ((refl, tt), (inl (1, omega arith, refl), tt))

pair_over : (cs : List PlainOperator) → IsTermOver (own ++ cs) (apply_two operator_p term_x term_x)
pair_over cs = ((refl, (tt, (tt, tt))), (inl (2, omega arith, refl), (tt, (tt, tt))))

generated_over : IsStatementOver own (Generated sort_n (constant_a ∷ constant_b ∷ operator_p ∷ []))
generated_over =
    let P : PlainOperator → Type 0 = λ g. IsKnown own g × (g.range ≡ sort_n) in
    All-cons P constant_a (constant_b ∷ operator_p ∷ []) (inl (0, omega arith, refl), refl)
    (both P constant_b operator_p (inl (1, omega arith, refl), refl) (inl (2, omega arith, refl), refl))

new : (i : ℕ) → All (λ c. IsNewName equal_pairs c.name) (one_twice i)
new zero = All-nil (λ c. IsNewName equal_pairs c.name)
new (suc zero) = All-nil (λ c. IsNewName equal_pairs c.name)
new (suc (suc i)) =
    both (λ c. IsNewName equal_pairs c.name) (box_constant 0) (box_constant 0) (box_is_new own 0) (box_is_new own 0)

constants : (i : ℕ) → AreConstants (one_twice i)
constants zero = All-nil (λ c. c.domain ≡ [])
constants (suc zero) = All-nil (λ c. c.domain ≡ [])
constants (suc (suc i)) = both (λ c. c.domain ≡ []) (box_constant 0) (box_constant 0) refl refl

abbrev generators : List PlainOperator
generators = constant_a ∷ constant_b ∷ operator_p ∷ []

sorts : (i : ℕ) (f : PlainOperator) → slice_get generators i ≡ Some f → map (λ c. c.range) (one_twice i) ≡ f.domain
sorts zero f e = ap (λ g. g.domain) (some_inj e)
sorts (suc zero) f e = ap (λ g. g.domain) (some_inj e)
sorts (suc (suc zero)) f e = ap (λ g. g.domain) (some_inj e)
sorts (suc (suc (suc i))) f e = cc

-- the case of a generator
abbrev Case : List PlainOperator → PlainOperator → Type 0
Case cs f =
    Derivable (extend equal_pairs cs
    (induction_hypotheses (codes "x") sort_n (apply_one operator_q term_x) (constant constant_a) cs))
    (equation_at (codes "x") sort_n (apply_one operator_q term_x) (constant constant_a) (app f (constant_terms cs)))

pair_case : Case (box_constant 0 ∷ box_constant 0 ∷ []) operator_p
pair_case =
    let c = box_constant 0 in
    let cs = c ∷ c ∷ [] in
    let entry : Entry = record { name = codes "x"; sort = sort_n; term = constant c } in
    instance (only (codes "x") sort_n (constant c)) (only_fits (codes "x") sort_n (constant c) (refl, tt) refl)
    (one (λ e. IsOver (own ++ cs) e.term) entry (inl (4, omega arith, refl), tt))
    (axiom_ (4, omega arith, refl) (sent_over cs (apply_two operator_p term_x term_x) (pair_over cs) refl)) refl refl

derived : (i : ℕ) (f : PlainOperator) → slice_get generators i ≡ Some f → Case (one_twice i) f
derived zero f e =
    subst (Case []) (some_inj e) (axiom_ (2, omega arith, refl) (sent_over [] (constant constant_a) (a_over []) refl))
derived (suc zero) f e =
    subst (Case []) (some_inj e) (axiom_ (3, omega arith, refl) (sent_over [] (constant constant_b) (b_over []) refl))
derived (suc (suc zero)) f e = subst (Case (box_constant 0 ∷ box_constant 0 ∷ [])) (some_inj e) pair_case
derived (suc (suc (suc i))) f e = cc

pub returns : goal.returns
unfolding same_operator
returns c =
    let P = IsStatementOver own in
    let first = sent_to_a (constant constant_a) in
    let second = sent_to_a (constant constant_b) in
    let third = sent_to_a (apply_two operator_p term_x term_x) in
    record {
      premises = record {
        generated = axiom_ (1, omega arith, refl) generated_over;
        over = sent_over [] term_x (tt, tt) refl;
        new = λ i f e. new i;
        constants = λ i f e. constants i;
        sorts = sorts;
        derived = derived;
      };
      refuted = refutes (λ s. 2) pair_tables equal_pairs (sent_to_a term_x)
          (All-cons P (Generated sort_n generators) (first ∷ second ∷ third ∷ []) generated_over
          (All-cons P first (second ∷ third ∷ []) (sent_over [] (constant constant_a) (a_over []) refl)
          (both P second third
          (sent_over [] (constant constant_b) (b_over []) refl)
          (sent_over [] (apply_two operator_p term_x term_x) (pair_over []) refl)))) refl refl;
    }
