-- What operators make of arguments in a model.
use Rattle.std.proofs.Common.{◌≡◌, ◌≤◌, ◌<◌, ◌+◌, ◌*◌, ◌^◌, min, ℕ, zero, suc, inl, inr, Bool, true, false, cond, List}
use Rattle.std.proofs.Common.{[]}
use Rattle.std.proofs.Common.{◌∷◌, None, Some, drop, get_or, length, refl, sym, ◌∙◌, ap, subst, arith}
use Rattle.std.specs.Prelude.{map}
use Rattle.std.proofs.lemmas.List.{length-drop}
use Rattle.larch_base.proofs.Bools.{true_or_false}
use Rattle.larch_term.specs.BuiltIn.{IsBuiltIn, IsBuiltInAs, built_in}
use Rattle.larch_term.specs.Operator.{PlainOperator}
use Rattle.larch_term.specs.OperatorKey.{same_operator, operator_Decides}
use Rattle.larch_term.specs.declared.built_in.BuiltIn.{BuiltIn}
use Rattle.larch_models_meaning.specs.declared.finite_model.FiniteModel.{FiniteModel}
use Rattle.larch_models_meaning.specs.declared.finite_model.OperatorTable.{OperatorTable}
use Rattle.larch_models_meaning.specs.FiniteModel.{argument_place, interpretation_of, last_among, last_in, place_from}
use Rattle.larch_models_meaning.specs.FiniteModel.{value_among}
use Rattle.larch_models_meaning.specs.Interpretation.{first, others}
use Rattle.larch_models_meaning.specs.Standard.{built_in_among, every_built_in, last_sort, standard_value}
use Rattle.larch_models.specs.Tables.{made_by, made_by_table, place_by, values_for}
use Rattle.larch_models.specs.declared.maker.Maker.TheVariants.{Meaning, Table as Values}
use Rattle.larch_models.specs.declared.maker.Table.{Table}
use Rattle.larch_models.proofs.Rests.{drop_item, drop_next}
use Rattle.larch_soundness.proofs.Standards.{standard_interprets}

-- ---- built-in operators

pub built_in_made : (m : FiniteModel) (b : BuiltIn) (f : PlainOperator) → IsBuiltInAs b f
    → made_by (Meaning b) ≡ (interpretation_of m).table f
built_in_made m b f h =
    λ i vs. (sym ((standard_interprets (last_among m.sorts) (value_among (last_in m) m.tables) []).meanings b h.0 vs)
    ∙ ap (λ g. (interpretation_of m).table g vs) (sym h.1)) i

not_among : (f : PlainOperator) (bs : List BuiltIn) → (IsBuiltIn f → ⊥) → built_in_among f bs ≡ None
not_among f [] h = refl
not_among f (b ∷ bs) h =
    let g = built_in b (last_sort f.domain) in
    elim (true_or_false (same_operator f g)) [
      | inl e ↦ absurd (h (b, (last_sort f.domain, (operator_Decides f g).0 e)))
      | inr e ↦ ap (λ q. cond q (Some b) (built_in_among f bs)) e ∙ not_among f bs h
    ]

pub table_made : (m : FiniteModel) (f : PlainOperator) → (IsBuiltIn f → ⊥)
    → made_by_table m f ≡ (interpretation_of m).table f
table_made m f h =
    λ i vs. ap (λ o. standard_value o (last_in m f.range) (value_among (last_in m) m.tables f vs) vs)
    (sym (not_among f every_built_in h)) i

-- ---- tables

pub values_here : (ts : List OperatorTable) (i : ℕ) (t : OperatorTable) (f : PlainOperator) → i < length ts
    → t ≡ get_or ts i t → t.operator ≡ f → t.values ≡ values_for (drop i ts) f
values_here ts i t f l e h =
    sym (ap (λ us. values_for us f) (drop_next ts i t l e)
    ∙ ap (λ b. cond b t.values (values_for (drop (i + 1) ts) f)) ((operator_Decides t.operator f).1 h))

not_same : (f g : PlainOperator) → (f ≡ g → ⊥) → same_operator f g ≡ false
not_same f g h =
    elim (true_or_false (same_operator f g)) [ inl e ↦ absurd (h ((operator_Decides f g).0 e)) | inr e ↦ e ]

pub values_further : (ts : List OperatorTable) (i : ℕ) (t : OperatorTable) (f : PlainOperator) → i < length ts
    → t ≡ get_or ts i t → (t.operator ≡ f → ⊥) → values_for (drop (i + 1) ts) f ≡ values_for (drop i ts) f
values_further ts i t f l e h =
    sym (ap (λ us. values_for us f) (drop_next ts i t l e)
    ∙ ap (λ b. cond b t.values (values_for (drop (i + 1) ts) f)) (not_same t.operator f h))

place_is : (last : List ℕ → ℕ) (k : ℕ) (ss : List (List ℕ)) (vs : List ℕ)
    → place_from last k ss vs ≡ place_by (map last ss) k vs
place_is last k [] vs = refl
place_is last k (s ∷ ss) [] = refl
place_is last k (s ∷ ss) (v ∷ vs) = place_is last (k * suc (last s) + v) ss vs

chosen_value : (b : Bool) (us vs : List ℕ) (i : ℕ) → get_or (cond b us vs) i 0 ≡ cond b (get_or us i 0) (get_or vs i 0)
chosen_value true us vs i = refl
chosen_value false us vs i = refl

value_is : (last : List ℕ → ℕ) (ts : List OperatorTable) (f : PlainOperator) (vs : List ℕ)
    → value_among last ts f vs ≡ get_or (values_for ts f) (argument_place last f.domain vs) 0
value_is last [] f vs = refl
value_is last (t ∷ ts) f vs =
    let i = argument_place last f.domain vs in
    ap (cond (same_operator t.operator f) (get_or t.values i 0)) (value_is last ts f vs)
    ∙ sym (chosen_value (same_operator t.operator f) t.values (values_for ts f) i)

-- a table with the values for an operator
pub table_is : (m : FiniteModel) (f : PlainOperator) (t : Table) → t.lasts ≡ map (last_in m) f.domain
    → t.last ≡ last_in m f.range → t.values.now ≡ values_for m.tables f → made_by (Values t) ≡ made_by_table m f
table_is m f t h k e =
    λ i vs. (ap (λ n. min n (get_or t.values.now (place_by t.lasts 0 vs) 0)) k
    ∙ ap (λ us. min (last_in m f.range) (get_or us (place_by t.lasts 0 vs) 0)) e
    ∙ ap (λ ns. min (last_in m f.range) (get_or (values_for m.tables f) (place_by ns 0 vs) 0)) h
    ∙ ap (λ n. min (last_in m f.range) (get_or (values_for m.tables f) n 0)) (sym (place_is (last_in m) 0 f.domain vs))
    ∙ ap (min (last_in m f.range)) (sym (value_is (last_in m) m.tables f vs))) i

-- ---- places

grown : (k n v : ℕ) → k ≤ k * suc n + v
grown k n v = let e : k * suc n ≡ k + k * n = mul_suc k n in omega (arith, e)
  where
    mul_suc : (k n : ℕ) → k * suc n ≡ k + k * n
    mul_suc k n = grind arith

pub place_grows : (ns : List ℕ) (k : ℕ) (vs : List ℕ) → k ≤ place_by ns k vs
place_grows [] k vs = omega arith
place_grows (n ∷ ns) k [] = omega arith
place_grows (n ∷ ns) k (v ∷ vs) =
    let a = grown k n v in
    let b = place_grows ns (k * suc n + v) vs in
    omega (arith, a, b)

-- the next argument
pub place_step : (ns vs : List ℕ) (i k : ℕ) → i < length ns → i < length vs
    → place_by (drop (i + 1) ns) (k * suc (get_or ns i 0) + get_or vs i 0) (drop (i + 1) vs)
    ≡ place_by (drop i ns) k (drop i vs)
place_step ns vs i k l m =
    sym (ap (λ us. place_by us k (drop i vs)) (drop_item ns i 0 l)
    ∙ ap (λ us. place_by (get_or ns i 0 ∷ drop (i + 1) ns) k us) (drop_item vs i 0 m))

place_over : (ns : List ℕ) (k : ℕ) (vs : List ℕ) → min (length ns) (length vs) ≡ 0 → place_by ns k vs ≡ k
place_over [] k vs e = refl
place_over (n ∷ ns) k [] e = refl
place_over (n ∷ ns) k (v ∷ vs) e = absurd (omega (arith, e))

pub nothing_beyond : (vs : List ℕ) (i : ℕ) → length vs ≤ i → get_or vs i 0 ≡ 0
nothing_beyond [] i l = refl
nothing_beyond (v ∷ vs) zero l = absurd (omega (arith, l))
nothing_beyond (v ∷ vs) (suc i) l = nothing_beyond vs i (omega (arith, l))

-- ---- values by their places

pub first_is : (vs : List ℕ) → get_or vs 0 0 ≡ first vs
first_is [] = refl
first_is (v ∷ vs) = refl

pub second_is : (vs : List ℕ) → get_or vs 1 0 ≡ first (others vs)
second_is [] = refl
second_is (v ∷ []) = refl
second_is (v ∷ w ∷ vs) = refl

pub third_is : (vs : List ℕ) → get_or vs 2 0 ≡ first (others (others vs))
third_is [] = refl
third_is (v ∷ []) = refl
third_is (v ∷ w ∷ []) = refl
third_is (v ∷ w ∷ x ∷ vs) = refl

-- where a step leads to no number, the place has none
pub place_beyond : (ns vs : List ℕ) (i k total : ℕ) → i < length ns → i < length vs
    → place_by (drop i ns) k (drop i vs) ≡ total → 2 ^ 64 ≤ k * suc (get_or ns i 0) + get_or vs i 0 → 2 ^ 64 ≤ total
place_beyond ns vs i k total l m e h =
    let n = k * suc (get_or ns i 0) + get_or vs i 0 in
    let g = place_grows (drop (i + 1) ns) n (drop (i + 1) vs) in
    subst (λ z. 2 ^ 64 ≤ z) (place_step ns vs i k l m ∙ e) (omega (arith, g, h))

pub place_ends : (ns vs : List ℕ) (i k : ℕ) → min (length ns) (length vs) ≤ i
    → place_by (drop i ns) k (drop i vs) ≡ k
place_ends ns vs i k l =
    place_over (drop i ns) k (drop i vs) (omega (arith, length-drop i ns, length-drop i vs, l))
