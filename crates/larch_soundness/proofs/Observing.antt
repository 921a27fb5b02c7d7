-- Observations of terms and of their values.
use Rattle.std.proofs.Common.{◌≡◌, ◌≢◌, ◌==◌, ℕ, suc, inl, inr, Bool, true, false, cond, List, [], ◌∷◌, All, Contains}
use Rattle.std.proofs.Common.{refl, sym, ◌∙◌, ap, subst}
use Rattle.std.proofs.lemmas.List.Elements.{All-head, All-tail}
use Rattle.larch_base.proofs.Bools.{true_or_false}
use Rattle.larch_base.proofs.Lists.{pairs_head, pairs_tail}
use Rattle.larch_base.proofs.Options.{map_cond}
use Rattle.larch_term.specs.Tree.{Tree, var}
use Rattle.larch_term.specs.Variable.{occurrences}
use Rattle.larch_term.specs.declared.variable.Variable.{Variable}
use Rattle.larch_term.specs.declared.statement.Statement.TheVariants.{Equation}
use Rattle.larch_calculus.specs.Derivable.{AreApart}
use Rattle.larch_calculus.specs.Observation.{Observation, arguments_with, variables_beside, observer_term}
use Rattle.larch_calculus.specs.Observation.{other_variables, AreDifferent}
use Rattle.larch_models_meaning.specs.Interpretation.{Interpretation, Assignment, value_of, values_of, Within, InRange}
use Rattle.larch_models_meaning.specs.Models.{with_value, ShowsSame, Holds}
use Rattle.larch_models_meaning.specs.Computed.{update}
use Rattle.larch_soundness.proofs.Assignments.{updated_in_range, updated_here, updated_elsewhere}
use Rattle.larch_soundness.proofs.Values.{Alike, value_alike}

-- the values of variables by these names at the places of a domain
abbrev named_values : Assignment → (ℕ → List ℕ) → ℕ → List (List ℕ) → List ℕ
named_values a names k [] = []
named_values a names k (r ∷ rs) = a (names k) r ∷ named_values a names (suc k) rs

named_within : (last : List ℕ → ℕ) (a : Assignment) → InRange last a → (names : ℕ → List ℕ) (k : ℕ) (rs : List (List ℕ))
    → Within last rs (named_values a names k rs)
named_within last a h names k [] = tt
named_within last a h names k (r ∷ rs) = (h (names k) r, named_within last a h names (suc k) rs)

arguments_values : (m : Interpretation) (a : Assignment) (names : ℕ → List ℕ) (place : ℕ) (t : Tree) (k : ℕ)
    (rs : List (List ℕ))
    → values_of m a (arguments_with names place t k rs) ≡ with_value place (value_of m a t) k
    (named_values a names k rs)
arguments_values m a names place t k [] = refl
arguments_values m a names place t k (r ∷ rs) =
    λ i. map_cond (value_of m a) (k == place) t (var (names k) r) i ∷ arguments_values m a names place t (suc k) rs i

-- where an observation shows the same of the values of two terms, its equation holds
pub observation_holds : (m n : Interpretation) (names : ℕ → List ℕ) (w : Observation) (a b : Tree) (u v : ℕ)
    → n.last ≡ m.last → ((vs : List ℕ) → n.table w.observer vs ≡ m.table w.observer vs)
    → ((x : Assignment) → value_of n x a ≡ u) → ((x : Assignment) → value_of n x b ≡ v) → ShowsSame m w u v
    → Holds n (Equation (observer_term names w a) (observer_term names w b))
observation_holds m n names w a b u v f e p q h x r =
    let rs = w.observer.domain in
    let vs = named_values x names 1 rs in
    let side : (t : Tree) (z : ℕ) → value_of n x t ≡ z
    → n.table w.observer (values_of n x (arguments_with names w.place t 1 rs)) ≡ m.table w.observer
    (with_value w.place z 1 vs) =
    λ t z g. e (values_of n x (arguments_with names w.place t 1 rs))
    ∙ ap (m.table w.observer) (arguments_values n x names w.place t 1 rs ∙ ap (λ z. with_value w.place z 1 vs) g) in
    side a u (p x) ∙ h vs (named_within m.last x (subst (λ l. InRange l x) f r) names 1 rs) ∙ sym (side b v (q x))

-- the variables beside a place have these values, in order
abbrev Have : Assignment → (ℕ → List ℕ) → ℕ → ℕ → List (List ℕ) → List ℕ → Type 0
Have b names place k [] vs = Unit {0}
Have b names place k (r ∷ rs) [] = Unit {0}
Have b names place k (r ∷ rs) (v ∷ vs) = ((k == place) ≡ false → b (names k) r ≡ v) × Have b names place (suc k) rs vs

put_alike : (c : Bool) (u v w : ℕ) → (c ≡ false → v ≡ w) → cond c u v ≡ cond c u w
put_alike true u v w h = refl
put_alike false u v w h = h refl

have_arguments : (last : List ℕ → ℕ) (b : Assignment) (names : ℕ → List ℕ) (place u k : ℕ) (rs : List (List ℕ))
    (vs : List ℕ)
    → Within last rs vs → Have b names place k rs vs
    → with_value place u k (named_values b names k rs) ≡ with_value place u k vs
have_arguments last b names place u k [] [] w h = refl
have_arguments last b names place u k [] (v ∷ vs) w h = absurd w
have_arguments last b names place u k (r ∷ rs) [] w h = absurd w
have_arguments last b names place u k (r ∷ rs) (v ∷ vs) w h =
    λ i. put_alike (k == place) u (b (names k) r) v h.0 i ∷ have_arguments last b names place u (suc k) rs vs w.1 h.1 i

-- one variable more, unless its place is that of the term
abbrev spread_one : Bool → List ℕ → List ℕ → ℕ → Assignment → Assignment
spread_one c n r v a = cond c a (update n r v a)

-- the assignment with these values for the variables beside a place
abbrev spread : (ℕ → List ℕ) → ℕ → ℕ → List (List ℕ) → List ℕ → Assignment → Assignment
spread names place k [] vs a = a
spread names place k (r ∷ rs) [] a = a
spread names place k (r ∷ rs) (v ∷ vs) a = spread_one (k == place) (names k) r v (spread names place (suc k) rs vs a)

not_both : {X : Type 0} (c : Bool) → c ≡ true → c ≡ false → X
not_both true e f = cc
not_both false e f = cc

have_updated : (b : Assignment) (names : ℕ → List ℕ) (place : ℕ) (x : Variable) (u k : ℕ) (rs : List (List ℕ))
    (vs : List ℕ)
    → All (λ w. x ≢ w) (variables_beside names place k rs) → Have b names place k rs vs
    → Have (update x.name x.sort u b) names place k rs vs
have_updated b names place x u k [] vs d h = tt
have_updated b names place x u k (r ∷ rs) [] d h = tt
have_updated b names place x u k (r ∷ rs) (v ∷ vs) d h =
    let w : Variable = record { name = names k; sort = r } in
    let rest = variables_beside names place (suc k) rs in
    let P : Variable → Type 0 = λ w. x ≢ w in
    elim (true_or_false (k == place)) [
      | inl e ↦ (
        λ f. not_both (k == place) e f,
        have_updated b names place x u (suc k) rs vs (subst (λ c. All P (cond c rest (w ∷ rest))) e d) h.1,
      )
      | inr e ↦
          let q : All P (w ∷ rest) = subst (λ c. All P (cond c rest (w ∷ rest))) e d in (
            λ f. updated_elsewhere b x w u (All-head P w rest q) ∙ h.0 f,
            have_updated b names place x u (suc k) rs vs (All-tail P w rest q) h.1,
          )
    ]

spread_has : (names : ℕ → List ℕ) (place k : ℕ) (rs : List (List ℕ)) (vs : List ℕ) (a : Assignment)
    → AreDifferent (variables_beside names place k rs) → Have (spread names place k rs vs a) names place k rs vs
spread_has names place k [] vs a d = tt
spread_has names place k (r ∷ rs) [] a d = tt
spread_has names place k (r ∷ rs) (v ∷ vs) a d =
    let w : Variable = record { name = names k; sort = r } in
    let rest = variables_beside names place (suc k) rs in
    let b = spread names place (suc k) rs vs a in
    elim (true_or_false (k == place)) [
      | inl e ↦ subst (λ c. Have (spread_one c (names k) r v b) names place k (r ∷ rs) (v ∷ vs)) (sym e) (
        λ f. not_both (k == place) e f,
        spread_has names place (suc k) rs vs a (subst (λ c. AreDifferent (cond c rest (w ∷ rest))) e d),
      )
      | inr e ↦
          let q : AreDifferent (w ∷ rest) = subst (λ c. AreDifferent (cond c rest (w ∷ rest))) e d in
          subst (λ c. Have (spread_one c (names k) r v b) names place k (r ∷ rs) (v ∷ vs)) (sym e) (
            λ f. updated_here b (names k) r v,
            have_updated b names place w v (suc k) rs vs (pairs_head (λ v w. v ≢ w) w rest q)
                (spread_has names place (suc k) rs vs a (pairs_tail (λ v w. v ≢ w) w rest q)),
          )
    ]

either_in_range : (last : List ℕ → ℕ) (c : Bool) (a b : Assignment) → InRange last a → InRange last b
    → InRange last (cond c a b)
either_in_range last true a b p q = p
either_in_range last false a b p q = q

spread_in_range : (last : List ℕ → ℕ) (names : ℕ → List ℕ) (place k : ℕ) (rs : List (List ℕ)) (vs : List ℕ)
    (a : Assignment)
    → Within last rs vs → InRange last a → InRange last (spread names place k rs vs a)
spread_in_range last names place k [] vs a d g = g
spread_in_range last names place k (r ∷ rs) [] a d g = g
spread_in_range last names place k (r ∷ rs) (v ∷ vs) a d g =
    let b = spread names place (suc k) rs vs a in
    let h = spread_in_range last names place (suc k) rs vs a d.1 g in
    either_in_range last (k == place) b (update (names k) r v b) h (updated_in_range last b (names k) r v d.0 h)

spread_alike : (names : ℕ → List ℕ) (place k : ℕ) (rs : List (List ℕ)) (vs : List ℕ) (a : Assignment)
    (ws : List Variable)
    → All (λ v. Contains ws v → ⊥) (variables_beside names place k rs) → Alike (spread names place k rs vs a) a ws
spread_alike names place k [] vs a ws h x c = refl
spread_alike names place k (r ∷ rs) [] a ws h x c = refl
spread_alike names place k (r ∷ rs) (v ∷ vs) a ws h x c =
    let w : Variable = record { name = names k; sort = r } in
    let rest = variables_beside names place (suc k) rs in
    let b = spread names place (suc k) rs vs a in
    let P : Variable → Type 0 = λ v. Contains ws v → ⊥ in
    elim (true_or_false (k == place)) [
      | inl e ↦ subst (λ q. spread_one q (names k) r v b x.name x.sort ≡ a x.name x.sort) (sym e)
          (spread_alike names place (suc k) rs vs a ws (subst (λ q. All P (cond q rest (w ∷ rest))) e h) x c)
      | inr e ↦
          let q : All P (w ∷ rest) = subst (λ q. All P (cond q rest (w ∷ rest))) e h in
          subst (λ q. spread_one q (names k) r v b x.name x.sort ≡ a x.name x.sort) (sym e)
          (updated_elsewhere b w x v (λ i. All-head P w rest q (subst (Contains ws) (sym i) c))
          ∙ spread_alike names place (suc k) rs vs a ws (All-tail P w rest q) x c)
    ]

-- the equation of an observation says that it shows the same of both terms' values, if the variables beside the terms
-- are apart from them
pub values_show_same : (m : Interpretation) (names : ℕ → List ℕ) (w : Observation) (a b : Tree)
    → AreApart (other_variables names w) a b → Holds m (Equation (observer_term names w a) (observer_term names w b))
    → (x : Assignment) → InRange m.last x → ShowsSame m w (value_of m x a) (value_of m x b)
values_show_same m names w a b apart h x r vs d =
    let rs = w.observer.domain in
    let y = spread names w.place 1 rs vs x in
    let have = spread_has names w.place 1 rs vs x apart.different in
    let side : (t : Tree) → Alike y x (occurrences t)
    → values_of m y (arguments_with names w.place t 1 rs) ≡ with_value w.place (value_of m x t) 1 vs =
    λ t l. arguments_values m y names w.place t 1 rs
    ∙ have_arguments m.last y names w.place (value_of m y t) 1 rs vs d have
    ∙ ap (λ v. with_value w.place v 1 vs) (value_alike m y x t l) in
    ap (m.table w.observer) (sym (side a (spread_alike names w.place 1 rs vs x (occurrences a) apart.left)))
    ∙ h y (spread_in_range m.last names w.place 1 rs vs x d r)
    ∙ ap (m.table w.observer) (side b (spread_alike names w.place 1 rs vs x (occurrences b) apart.right))
