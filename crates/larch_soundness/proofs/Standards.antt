-- Standard interpretations are interpretations, whatever the tables.
use Rattle.std.proofs.Common.{◌≡◌, ◌≤◌, ℕ, inl, inr, Bool, true, cond, List, [], ◌∷◌, Option, Some, None, refl, sym}
use Rattle.std.proofs.Common.{◌∙◌, ap, subst}
use Rattle.std.proofs.Math.Nat.{min-le_left, min-eq_right}
use Rattle.larch_base.proofs.Bools.{true_or_false}
use Rattle.larch_base.proofs.Members.{contains_none}
use Rattle.larch_base.proofs.Options.{some_inj}
use Rattle.larch_term.specs.Operator.{PlainOperator}
use Rattle.larch_term.specs.BuiltIn.{built_in, IsBuiltIn}
use Rattle.larch_term.specs.declared.built_in.BuiltIn.{BuiltIn}
use Rattle.larch_term.specs.declared.built_in.BuiltIn.TheVariants.{True, False, Not, And, Or, Implies, Iff, Equal}
use Rattle.larch_term.specs.declared.built_in.BuiltIn.TheVariants.{Unequal, If}
use Rattle.larch_term.specs.OperatorKey.{same_operator, operator_Decides}
use Rattle.larch_models_meaning.specs.Interpretation.{Interpretation, meaning, Within, IsInterpretation}
use Rattle.larch_models_meaning.specs.Standard.{last_sort, built_in_among, every_built_in, standard_last}
use Rattle.larch_models_meaning.specs.Standard.{standard_value}
use Rattle.larch_models_meaning.specs.Standard.{standard}
use Rattle.larch_soundness.proofs.Values.{meaning_within}

among_is : (f : PlainOperator) (bs : List BuiltIn) (b : BuiltIn) → built_in_among f bs ≡ Some b
    → f ≡ built_in b (last_sort f.domain)
among_is f [] b h = cc
among_is f (c ∷ bs) b h =
    let g = built_in c (last_sort f.domain) in
    let P : Bool → Type 0 = λ q. cond q (Some c) (built_in_among f bs) ≡ Some b in
    elim (true_or_false (same_operator f g)) [
      | inl e ↦ (operator_Decides f g).0 e ∙ ap (λ z. built_in z (last_sort f.domain)) (some_inj (subst P e h))
      | inr e ↦ among_is f bs b (subst P e h)
    ]

found : (f : PlainOperator) (b : BuiltIn) (bs : List BuiltIn) → same_operator f (built_in b (last_sort f.domain)) ≡ true
    → built_in_among f (b ∷ bs) ≡ Some b
found f b bs e = ap (λ c. cond c (Some b) (built_in_among f bs)) e

is_among : (b : BuiltIn) (s : List ℕ) → built_in_among (built_in b s) every_built_in ≡ Some b
unfolding same_operator
is_among True s = refl
is_among False s = refl
is_among Not s = refl
is_among And s = refl
is_among Or s = refl
is_among Implies s = refl
is_among Iff s = refl
is_among Equal s = found (built_in Equal s) Equal (Unequal ∷ If ∷ [])
    ((operator_Decides (built_in Equal s) (built_in Equal s)).1 refl)
is_among Unequal s = found (built_in Unequal s) Unequal (If ∷ [])
    ((operator_Decides (built_in Unequal s) (built_in Unequal s)).1 refl)
is_among If s = found (built_in If s) If [] ((operator_Decides (built_in If s) (built_in If s)).1 refl)

knows : (last : List ℕ → ℕ) (tables : PlainOperator → List ℕ → ℕ) (b : BuiltIn) (s vs : List ℕ)
    → (standard last tables).table (built_in b s) vs ≡ meaning b vs
knows last tables b s vs =
    ap (λ o. standard_value o (standard_last last (built_in b s).range) (tables (built_in b s) vs) vs) (is_among b s)

-- the tables of no operators are within their ranges
no_operators : (last : List ℕ → ℕ) (tables : PlainOperator → List ℕ → ℕ) → IsInterpretation [] (standard last tables)
no_operators last tables =
    record { two_truth_values = refl; meanings = knows last tables; within = λ f c vs w. absurd (contains_none f c) }

value_within_range : {m : Interpretation} → IsInterpretation [] m
    → (f : PlainOperator) (v : ℕ) (vs : List ℕ) (o : Option BuiltIn)
    → ((b : BuiltIn) → o ≡ Some b → f ≡ built_in b (last_sort f.domain)) → Within m.last f.domain vs
    → standard_value o (m.last f.range) v vs ≤ m.last f.range
value_within_range {m} i f v vs None h w = min-le_left (m.last f.range) v
value_within_range {m} i f v vs (Some b) h w =
    let s = last_sort f.domain in
    let e : f ≡ built_in b s = h b refl in
    subst (λ r. meaning b vs ≤ m.last r) (sym (ap (λ g. g.range) e))
    (meaning_within i b s vs (subst (λ ss. Within m.last ss vs) (ap (λ g. g.domain) e) w))

pub standard_interprets : (last : List ℕ → ℕ) (tables : PlainOperator → List ℕ → ℕ) (fs : List PlainOperator)
    → IsInterpretation fs (standard last tables)
standard_interprets last tables fs =
    let m = standard last tables in
    record {
      two_truth_values = refl;
      meanings = knows last tables;
      within = λ f c vs w. value_within_range (no_operators last tables) f (tables f vs) vs
          (built_in_among f every_built_in) (among_is f every_built_in) w;
    }

own_value : (f : PlainOperator) → (IsBuiltIn f → ⊥) → (n v : ℕ) → v ≤ n → (vs : List ℕ) (o : Option BuiltIn)
    → ((b : BuiltIn) → o ≡ Some b → f ≡ built_in b (last_sort f.domain)) → standard_value o n v vs ≡ v
own_value f h n v le vs None k = min-eq_right le
own_value f h n v le vs (Some b) k = absurd (h (b, (last_sort f.domain, k b refl)))

-- a value of the range in the table of an operator that isn't built in stays as it is
pub standard_keeps : (last : List ℕ → ℕ) (tables : PlainOperator → List ℕ → ℕ) (f : PlainOperator) → (IsBuiltIn f → ⊥)
    → (vs : List ℕ) → tables f vs ≤ (standard last tables).last f.range
    → (standard last tables).table f vs ≡ tables f vs
standard_keeps last tables f h vs le =
    own_value f h (standard_last last f.range) (tables f vs) le vs (built_in_among f every_built_in)
    (among_is f every_built_in)
