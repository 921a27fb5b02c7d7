-- Observations are well sorted.
use Rattle.std.proofs.Common.{◌≡◌, ℕ, suc, ◌<◌, ◌≤◌, ◌==◌, ◌⊎◌, inl, inr, Bool, true, false, cond, List, [], ◌∷◌, ◌++◌}
use Rattle.std.proofs.Common.{map, All, Contains, bytes_eq, refl, sym, ◌∙◌, subst, arith}
use Rattle.std.proofs.lemmas.List.Elements.{All-map, All-contains}
use Rattle.std.proofs.lemmas.Slice.Eq.{bytes_eq-Decides}
use Rattle.larch_term.proofs.BaseBools.{true_or_false}
use Rattle.larch_term.proofs.BaseMembers.{contains_cases, contains_here, contains_later}
use Rattle.larch_term.proofs.BaseMembers.{contains_right, contains_either}
use Rattle.larch_term.proofs.BaseMembers.{contained_in_map}
use Rattle.larch_term.proofs.BaseLists.{all_from}
use Rattle.larch_term.specs.Operator.{PlainOperator}
use Rattle.larch_term.specs.Tree.{Tree, var}
use Rattle.larch_term.specs.Sorts.{sort_of, sorts_of, WellSorted, AllWellSorted, IsOver, AllOver, IsKnown, IsTermOver}
use Rattle.larch_term.specs.Statement.{IsStatementOver}
use Rattle.larch_term.specs.declared.statement.Statement.TheVariants.{Equation, Partitioned}
use Rattle.larch_term.specs.declared.statement.Theory.{Theory}
use Rattle.larch_calculus.specs.Formula.{constant}
use Rattle.larch_calculus.specs.Theories.{IsTermOf, AreConstants}
use Rattle.larch_calculus.specs.Observation.{Observation, arguments_with, observer_term, observations_of, observations}
use Rattle.larch_calculus.specs.Observation.{places_of_sort}
use Rattle.larch_calculus.proofs.Sorted.{knows_more, statement_over_more}

number_is : (k p : ℕ) → (k == p) ≡ true → k ≡ p
number_is k p e = grind arith

sort_of_choice : (b : Bool) (t u : Tree) (s : List ℕ) → (b ≡ true → sort_of t ≡ s) → sort_of u ≡ s
    → sort_of (cond b t u) ≡ s
sort_of_choice true t u s h e = h refl
sort_of_choice false t u s h e = e

-- the sort stands at the places of the list
places_of : (s : List ℕ) (k : ℕ) (r : List ℕ) (rs : List (List ℕ)) (p : ℕ) → Contains (places_of_sort s k (r ∷ rs)) p
    → ((k ≡ p) × (r ≡ s)) ⊎ Contains (places_of_sort s (suc k) rs) p
places_of s k r rs p c =
    elim (true_or_false (bytes_eq r s)) [
      | inl e ↦
          elim (contains_cases k p (places_of_sort s (suc k) rs)
          (subst (λ b. Contains (cond b (k ∷ places_of_sort s (suc k) rs) (places_of_sort s (suc k) rs)) p) e c)) [
            | inl i ↦ inl (i, (bytes_eq-Decides r s).0 e)
            | inr d ↦ inr d
          ]
      | inr e ↦
          inr (subst (λ b. Contains (cond b (k ∷ places_of_sort s (suc k) rs) (places_of_sort s (suc k) rs)) p) e c)
    ]

place_at_least : (s : List ℕ) (k : ℕ) (ss : List (List ℕ)) (p : ℕ) → Contains (places_of_sort s k ss) p → k ≤ p
place_at_least s k [] p c = let lt = c.1 in absurd (omega arith)
place_at_least s k (r ∷ rs) p c =
    elim (places_of s k r rs p c) [
      | inl e ↦ let i = e.0 in
          omega arith
      | inr d ↦ let le = place_at_least s (suc k) rs p d in omega arith
    ]

sorts_past : (names : ℕ → List ℕ) (place : ℕ) (t : Tree) (k : ℕ) (ss : List (List ℕ)) → place < k
    → sorts_of (arguments_with names place t k ss) ≡ ss
sorts_past names place t k [] lt = refl
sorts_past names place t k (r ∷ rs) lt =
    let head : sort_of (cond (k == place) t (var (names k) r)) ≡ r =
    sort_of_choice (k == place) t (var (names k) r) r (λ e. let i = number_is k place e in absurd (omega arith)) refl in
    let tail = sorts_past names place t (suc k) rs (omega arith) in
    λ i. head i ∷ tail i

pub sorts_with : (names : ℕ → List ℕ) (place : ℕ) (t : Tree) (s : List ℕ) (k : ℕ) (ss : List (List ℕ)) → sort_of t ≡ s
    → Contains (places_of_sort s k ss) place → sorts_of (arguments_with names place t k ss) ≡ ss
sorts_with names place t s k [] e c = refl
sorts_with names place t s k (r ∷ rs) e c =
    elim (places_of s k r rs place c) [
      | inl h ↦
          let head : sort_of (cond (k == place) t (var (names k) r)) ≡ r =
          sort_of_choice (k == place) t (var (names k) r) r (λ _. e ∙ sym h.1) refl in
          let k_is = h.0 in
          let tail = sorts_past names place t (suc k) rs (omega arith) in
          λ i. head i ∷ tail i
      | inr d ↦
          let le = place_at_least s (suc k) rs place d in
          let head : sort_of (cond (k == place) t (var (names k) r)) ≡ r =
          sort_of_choice (k == place) t (var (names k) r) r
          (λ q. let i = number_is k place q in absurd (omega arith)) refl in
          let tail = sorts_with names place t s (suc k) rs e d in
          λ i. head i ∷ tail i
    ]

either_holds : (P : Tree → Type 0) (b : Bool) (t u : Tree) → P t → P u → P (cond b t u)
either_holds P true t u p q = p
either_holds P false t u p q = q

arguments_well_sorted : (names : ℕ → List ℕ) (place : ℕ) (t : Tree) (k : ℕ) (ss : List (List ℕ)) → WellSorted t
    → AllWellSorted (arguments_with names place t k ss)
arguments_well_sorted names place t k [] w = tt
arguments_well_sorted names place t k (r ∷ rs) w =
    (either_holds WellSorted (k == place) t (var (names k) r) w tt, arguments_well_sorted names place t (suc k) rs w)

arguments_over : (fs : List PlainOperator) (names : ℕ → List ℕ) (place : ℕ) (t : Tree) (k : ℕ) (ss : List (List ℕ))
    → IsOver fs t → AllOver fs (arguments_with names place t k ss)
arguments_over fs names place t k [] o = tt
arguments_over fs names place t k (r ∷ rs) o =
    (either_holds (IsOver fs) (k == place) t (var (names k) r) o tt, arguments_over fs names place t (suc k) rs o)

-- an observation is of an observer, at a place of the sort
pub observation_is : (s : List ℕ) (os : List PlainOperator) (w : Observation) → Contains (observations_of s os) w
    → Contains os w.observer × Contains (places_of_sort s 1 w.observer.domain) w.place
observation_is s [] w c = let lt = c.1 in absurd (omega arith)
observation_is s (o ∷ os) w c =
    elim (contains_either (map (λ k. record { observer = o; place = k }) (places_of_sort s 1 o.domain))
    (observations_of s os) w c) [
      | inl a ↦
          let r = contained_in_map (λ k. record { observer = o; place = k }) (places_of_sort s 1 o.domain) w a in
          subst (λ x. Contains (o ∷ os) x.observer × Contains (places_of_sort s 1 x.observer.domain) x.place) r.2
          (contains_here o os, r.1)
      | inr b ↦ let r = observation_is s os w b in (contains_later o w.observer os r.0, r.1)
    ]

pub observed_over : (fs : List PlainOperator) (names : ℕ → List ℕ) (s : List ℕ) (w : Observation) (t : Tree)
    → IsKnown fs w.observer
    → Contains (places_of_sort s 1 w.observer.domain) w.place → IsTermOver fs t → sort_of t ≡ s
    → IsTermOver fs (observer_term names w t)
observed_over fs names s w t k c o e = (
  (sorts_with names w.place t s 1 w.observer.domain e c, arguments_well_sorted names w.place t 1 w.observer.domain o.0),
  (k, arguments_over fs names w.place t 1 w.observer.domain o.1),
)

-- the observations' equations between two terms of the sort are well sorted
pub observations_over : (fs : List PlainOperator) (names : ℕ → List ℕ) (s : List ℕ) (os : List PlainOperator)
    (t u : Tree)
    → ((o : PlainOperator) → Contains os o → IsKnown fs o) → IsTermOver fs t → sort_of t ≡ s → IsTermOver fs u
    → sort_of u ≡ s
    → All (IsStatementOver fs) (observations names s os t u)
observations_over fs names s os t u k wt et wu eu =
    All-map (IsStatementOver fs) (λ w. Equation (observer_term names w t) (observer_term names w u))
    (observations_of s os)
    (all_from (λ w. IsStatementOver fs (Equation (observer_term names w t) (observer_term names w u)))
    (observations_of s os)
    (λ w c.
    let r = observation_is s os w c in (
      observed_over fs names s w t (k w.observer r.0) r.1 wt et,
      observed_over fs names s w u (k w.observer r.0) r.1 wu eu,
      refl,
    )))

pub observations_of_terms : (fs : List PlainOperator) (names : ℕ → List ℕ) (s : List ℕ) (os : List PlainOperator)
    (t u : Tree)
    → IsStatementOver fs (Partitioned s os) → IsTermOf fs s t → IsTermOf fs s u
    → All (IsStatementOver fs) (observations names s os t u)
observations_of_terms fs names s os t u w p q =
    observations_over fs names s os t u
    (λ o i. (All-contains (λ g. IsKnown fs g × Contains g.domain s) os o w i).0) p.0 p.1 q.0 q.1

-- so are those between two new constants
pub partition_over : (t : Theory) (names : ℕ → List ℕ) (s : List ℕ) (os : List PlainOperator) (c d : PlainOperator)
    → IsStatementOver t.operators (Partitioned s os) → AreConstants (c ∷ d ∷ []) → c.range ≡ s → d.range ≡ s
    → All (IsStatementOver (t.operators ++ c ∷ d ∷ [])) (observations names s os (constant c) (constant d))
partition_over t names s os c d w k e f =
    let cs = c ∷ d ∷ [] in
    let constant_over : (g : PlainOperator) → Contains cs g → IsTermOver (t.operators ++ cs) (constant g) =
    λ g i. ((sym (All-contains (λ g. g.domain ≡ []) cs g k i), tt), (inl (contains_right t.operators cs g i), tt)) in
    observations_of_terms (t.operators ++ cs) names s os (constant c) (constant d)
    (statement_over_more t.operators (t.operators ++ cs) (knows_more t.operators cs) (Partitioned s os) w)
    (constant_over c (contains_here c (d ∷ [])), e)
    (constant_over d (contains_later c d (d ∷ []) (contains_here d [])), f)
