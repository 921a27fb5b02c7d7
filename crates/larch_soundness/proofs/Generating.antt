-- A set of values as the table of a predicate, and the hypotheses of a generation clause.
use Rattle.std.proofs.Common.{◌≡◌, ℕ, suc, inl, inr, Bool, true, false, not, ◌||◌, ◌&&◌, cond, List, [], ◌∷◌, map}
use Rattle.std.proofs.Common.{Option, Some, None, bytes_eq, refl, sym, ◌∙◌, ap, subst}
use Rattle.std.proofs.lemmas.Slice.Eq.{bytes_eq-Decides}
use Rattle.larch_base.proofs.Bools.{true_or_false, and_left, and_right}
use Rattle.larch_term.specs.Operator.{OperatorName, PlainOperator}
use Rattle.larch_term.specs.Tree.{Tree, var, app}
use Rattle.larch_term.specs.BuiltIn.{bool_sort}
use Rattle.larch_term.specs.declared.built_in.BuiltIn.TheVariants.{True, And, Implies}
use Rattle.larch_term.specs.declared.variable.Variable.{Variable}
use Rattle.larch_term.specs.declared.statement.Statement.TheVariants.{Equation}
use Rattle.larch_term.specs.Truth.{truth}
use Rattle.larch_term.specs.OperatorKey.{same_name}
use Rattle.larch_calculus.specs.Formula.{apply_one, conjunction}
use Rattle.larch_calculus.specs.Generation.{variables_from, variable_terms, holding, conjunction_from, implied_by}
use Rattle.larch_calculus.specs.Generation.{generation_formula}
use Rattle.larch_models_meaning.specs.Interpretation.{Interpretation, Assignment, value_of, values_of, bit, is_one}
use Rattle.larch_models_meaning.specs.Interpretation.{first}
use Rattle.larch_models_meaning.specs.Interpretation.{Within, IsInterpretation}
use Rattle.larch_models_meaning.specs.Models.{ArgumentsIn, Holds}
use Rattle.larch_soundness.proofs.Freed.{of_variables, of_variables_within}
use Rattle.larch_soundness.proofs.Values.{is_one_bit}

-- the set as a table
abbrev pub set_table : (ℕ → Bool) → List ℕ → ℕ
set_table p vs = bit (p (first vs))

-- it for one name
abbrev pub set_for : OperatorName → (ℕ → Bool) → OperatorName → Option (List ℕ → ℕ)
set_for q p n = cond (same_name q n) (Some (set_table p)) None

-- each of these terms is true
abbrev AllTrue : Interpretation → Assignment → List Tree → Type 0
AllTrue m a [] = Unit {0}
AllTrue m a (t ∷ ts) = (is_one (value_of m a t) ≡ true) × AllTrue m a ts

conjoined_true : {fs : List PlainOperator} {m : Interpretation} → IsInterpretation fs m → (a : Assignment) (t : Tree)
    (us : List Tree) → is_one (value_of m a (conjunction_from t us)) ≡ true
    → (is_one (value_of m a t) ≡ true) × AllTrue m a us
conjoined_true i a t [] h = (h, tt)
conjoined_true {m = m} i a t (u ∷ us) h =
    let r = conjoined_true i a (conjunction t u) us h in
    let p = is_one (value_of m a t) in
    let q = is_one (value_of m a u) in
    let e : (p && q) ≡ true =
    sym (ap is_one (i.meanings And bool_sort (value_of m a t ∷ value_of m a u ∷ [])) ∙ is_one_bit (p && q)) ∙ r.0 in
    (and_left p q e, (and_right p q e, r.1))

implied_bit : (c : Bool) (g : ℕ) → (c ≡ true → g ≡ 1) → bit (not c || is_one g) ≡ 1
implied_bit true g h = ap (λ z. bit (is_one z)) (h refl)
implied_bit false g h = refl

implied_true : {fs : List PlainOperator} {m : Interpretation} → IsInterpretation fs m
    → (a : Assignment) (us : List Tree)
    (t : Tree) → (AllTrue m a us → value_of m a t ≡ 1) → value_of m a (implied_by us t) ≡ 1
implied_true i a [] t h = h tt
implied_true {m = m} i a (u ∷ us) t h =
    i.meanings Implies bool_sort (value_of m a (conjunction_from u us) ∷ value_of m a t ∷ [])
    ∙ implied_bit (is_one (value_of m a (conjunction_from u us))) (value_of m a t) (λ e. h (conjoined_true i a u us e))

holding_in : (m : Interpretation) (a : Assignment) (q : PlainOperator) (p : ℕ → Bool)
    → ((vs : List ℕ) → m.table q vs ≡ set_table p vs) → (s : List ℕ) (vs : List Variable)
    → AllTrue m a (holding q s vs) → ArgumentsIn p s (map (λ v. v.sort) vs) (of_variables a vs)
holding_in m a q p e s [] h = tt
holding_in m a q p e s (v ∷ vs) h =
    let t = apply_one q (var v.name v.sort) in
    let rest = holding q s vs in
    let one : is_one (value_of m a t) ≡ true → p (a v.name v.sort) ≡ true =
    λ o. sym (is_one_bit (p (a v.name v.sort))) ∙ sym (ap is_one (e (a v.name v.sort ∷ []))) ∙ o in
    elim (true_or_false (bytes_eq v.sort s)) [
      | inl i ↦
          let g : AllTrue m a (t ∷ rest) = subst (λ c. AllTrue m a (cond c (t ∷ rest) rest)) i h in
          (λ j. one g.0, holding_in m a q p e s vs g.1)
      | inr i ↦ (
        λ j. let apart : true ≡ false = sym ((bytes_eq-Decides v.sort s).1 j) ∙ i in cc,
        holding_in m a q p e s vs (subst (λ c. AllTrue m a (cond c (t ∷ rest) rest)) i h),
      )
    ]

variable_sorts : (k : ℕ) (ss : List (List ℕ)) → map (λ v. v.sort) (variables_from k ss) ≡ ss
variable_sorts k [] = refl
variable_sorts k (s ∷ ss) = ap (λ rs. s ∷ rs) (variable_sorts (suc k) ss)

variable_values : (m : Interpretation) (a : Assignment) (vs : List Variable)
    → values_of m a (variable_terms vs) ≡ of_variables a vs
variable_values m a [] = refl
variable_values m a (v ∷ vs) = ap (λ us. a v.name v.sort ∷ us) (variable_values m a vs)

-- the hypothesis for a generator holds, if the set is closed under it
pub generation_holds : {fs : List PlainOperator} {n : Interpretation} → IsInterpretation fs n → (t : List ℕ → ℕ)
    (q : PlainOperator) (p : ℕ → Bool) → ((vs : List ℕ) → n.table q vs ≡ set_table p vs)
    → (s : List ℕ) (f : PlainOperator)
    → ((vs : List ℕ) → n.table f vs ≡ t vs)
    → ((vs : List ℕ) → Within n.last f.domain vs → ArgumentsIn p s f.domain vs → p (t vs) ≡ true)
    → Holds n (Equation (generation_formula q s f) truth)
generation_holds {n = n} i t q p e s f g c a r =
    let vs = variables_from 1 f.domain in
    let xs = of_variables a vs in
    let sorts = variable_sorts 1 f.domain in
    let within : Within n.last f.domain xs =
    subst (λ ss. Within n.last ss xs) sorts (of_variables_within n.last a r vs) in
    let made : AllTrue n a (holding q s vs) → value_of n a (apply_one q (app f (variable_terms vs))) ≡ 1 =
    λ h. e (n.table f (values_of n a (variable_terms vs)) ∷ [])
    ∙ ap (λ us. bit (p (n.table f us))) (variable_values n a vs)
    ∙ ap (λ u. bit (p u)) (g xs)
    ∙ ap bit (c xs within (subst (λ ss. ArgumentsIn p s ss xs) sorts (holding_in n a q p e s vs h))) in
    implied_true i a (holding q s vs) (apply_one q (app f (variable_terms vs))) made
    ∙ sym (i.meanings True bool_sort [])
