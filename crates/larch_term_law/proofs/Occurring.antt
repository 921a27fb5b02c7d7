-- Variables that occur: where they stand, and the list of them.
use Rattle.std.proofs.Common.{◌≡◌, ◌≢◌, ◌↔◌, ℕ, zero, suc, ◌&&◌, ◌<◌, ◌⊎◌, inl, inr, Bool, true, false, cond, List, []}
use Rattle.std.proofs.Common.{◌∷◌, ◌++◌, fold, length, get_or, Option, Some, None, option_and_then, Contains, AllPairs}
use Rattle.std.proofs.Common.{bytes_eq, arith, refl, sym, ◌∙◌, ap, subst}
use Rattle.std.specs.Bool.{Decides}
use Rattle.std.specs.List.{list_any}
use Rattle.std.proofs.lemmas.Bool.Decides.{Decides-and, Decides-like}
use Rattle.std.proofs.lemmas.List.Elements.{Contains-get_or}
use Rattle.std.proofs.lemmas.List.Quantifiers.{all_pairs_push}
use Rattle.std.proofs.lemmas.Option.{option_and_then_some}
use Rattle.std.proofs.lemmas.Slice.Eq.{bytes_eq-Decides}
use Rattle.larch_term.proofs.BaseBools.{true_or_false, or_right, or_left}
use Rattle.larch_term.proofs.BaseMembers.{contains_here, contains_later, contains_cases, contains_none, contains_one}
use Rattle.larch_term.proofs.BaseMembers.{contains_left, contains_right, contains_either}
use Rattle.larch_term.proofs.BaseOptions.{some_inj}
use Rattle.larch_term.specs.Operator.{PlainOperator}
use Rattle.larch_term.specs.Place.{at, argument}
use Rattle.larch_term.specs.Tree.{Tree, Forest, var, app, none, more}
use Rattle.larch_term.specs.Variable.{occurrences, occurrences_in, same_variable, with_variable, variables_of}
use Rattle.larch_term.specs.declared.variable.Variable.{Variable}

-- a place at which a variable stands
abbrev pub StandsAt : Tree → Variable → Type 0
StandsAt t v = (p : List ℕ) × (at t p ≡ Some (var v.name v.sort))

-- an argument's number and a place in it at which a variable stands
abbrev StandsIn : Forest → Variable → Type 0
StandsIn ts v = (k : ℕ) × (t : Tree) × (argument ts (suc k) ≡ Some t) × StandsAt t v

stands_later : (t : Tree) (ts : Forest) (v : Variable) → StandsIn ts v → StandsIn (more t ts) v
stands_later t ts v (k, u, a, h) = (suc k, u, a, h)

mutual
  -- a variable that occurs stands at a place
  pub stands_where_it_occurs : (t : Tree) (v : Variable) → Contains (occurrences t) v → StandsAt t v
  stands_where_it_occurs (var n s) v c =
      let e = contains_one (record { name = n; sort = s }) v c in ([], λ i. Some (var (e i).name (e i).sort))
  stands_where_it_occurs (app f ts) v c =
      let s = stands_in ts v c in
      (suc s.0 ∷ s.3.0, ap (option_and_then (λ u. at u s.3.0)) s.2 ∙ s.3.1)

  stands_in : (ts : Forest) (v : Variable) → Contains (occurrences_in ts) v → StandsIn ts v
  stands_in none v c = absurd (contains_none v c)
  stands_in (more t ts) v c =
      elim (contains_either (occurrences t) (occurrences_in ts) v c) [
        | inl a ↦ (zero, t, refl, stands_where_it_occurs t v a)
        | inr b ↦ stands_later t ts v (stands_in ts v b)
      ]

occurs_in_argument : (ts : Forest) (k : ℕ) (t : Tree) (v : Variable) → argument ts k ≡ Some t
    → Contains (occurrences t) v
    → Contains (occurrences_in ts) v
occurs_in_argument none k t v a c = cc
occurs_in_argument (more u us) zero t v a c = cc
occurs_in_argument (more u us) (suc zero) t v a c =
    contains_left (occurrences u) (occurrences_in us) v (subst (λ x. Contains (occurrences x) v) (sym (some_inj a)) c)
occurs_in_argument (more u us) (suc (suc k)) t v a c =
    contains_right (occurrences u) (occurrences_in us) v (occurs_in_argument us (suc k) t v a c)

-- what occurs in a subterm occurs in the term
pub occurs_in_subterm : (t : Tree) (p : List ℕ) (u : Tree) (v : Variable) → at t p ≡ Some u → Contains (occurrences u) v
    → Contains (occurrences t) v
occurs_in_subterm t [] u v h c = subst (λ x. Contains (occurrences x) v) (sym (some_inj h)) c
occurs_in_subterm (var n s) (k ∷ p) u v h c = cc
occurs_in_subterm (app f ts) (k ∷ p) u v h c =
    option_and_then_some (λ w. at w p) (argument ts k) u h
    (λ w a b. occurs_in_argument ts k w v a (occurs_in_subterm w p u v b c))

-- a variable that stands at a place occurs
pub occurs_where_it_stands : (t : Tree) (p : List ℕ) (v : Variable) → at t p ≡ Some (var v.name v.sort)
    → Contains (occurrences t) v
occurs_where_it_stands t p v h = occurs_in_subterm t p (var v.name v.sort) v h (contains_here v [])

pub variable_Decides : (v w : Variable) → Decides (same_variable v w) (v ≡ w)
variable_Decides v w =
    Decides-like (bytes_eq v.name w.name && bytes_eq v.sort w.sort)
    (λ h i. record { name = h.0 i; sort = h.1 i }) (λ e. (ap (λ u. u.name) e, ap (λ u. u.sort) e))
    (Decides-and (bytes_eq v.name w.name) (bytes_eq v.sort w.sort) (bytes_eq-Decides v.name w.name)
    (bytes_eq-Decides v.sort w.sort))

found_here : (v w : Variable) (ws : List Variable) (b : Bool) → same_variable v w ≡ b
    → (list_any (same_variable v) ws ≡ true → Contains ws v)
    → list_any (same_variable v) (w ∷ ws) ≡ true → Contains (w ∷ ws) v
found_here v w ws true e next h = subst (λ u. Contains (u ∷ ws) v) ((variable_Decides v w).0 e) (contains_here v ws)
found_here v w ws false e next h = contains_later w v ws (next (rw e at h))

found_contains : (v : Variable) (ws : List Variable) → list_any (same_variable v) ws ≡ true → Contains ws v
found_contains v [] h = cc
found_contains v (w ∷ ws) h = found_here v w ws (same_variable v w) refl (found_contains v ws) h

contains_found : (v : Variable) (ws : List Variable) → Contains ws v → list_any (same_variable v) ws ≡ true
contains_found v [] c = absurd (contains_none v c)
contains_found v (w ∷ ws) c =
    elim (contains_cases w v ws c) [
      | inl e ↦ or_left (same_variable v w) (list_any (same_variable v) ws) ((variable_Decides v w).1 (sym e))
      | inr d ↦ or_right (same_variable v w) (list_any (same_variable v) ws) (contains_found v ws d)
    ]

-- one variable more, unless it is there
with_by : (P : List Variable → Type 0) (vs : List Variable) (v : Variable) (b : Bool)
    → list_any (same_variable v) vs ≡ b
    → (list_any (same_variable v) vs ≡ true → P vs) → (list_any (same_variable v) vs ≡ false → P (vs ++ v ∷ []))
    → P (with_variable vs v)
with_by P vs v true e p q = rw e (p e)
with_by P vs v false e p q = rw e (q e)

with_keeps : (vs : List Variable) (v w : Variable) → Contains vs w → Contains (with_variable vs v) w
with_keeps vs v w c =
    with_by (λ us. Contains us w) vs v (list_any (same_variable v) vs) refl (λ _. c)
    (λ _. contains_left vs (v ∷ []) w c)

with_has : (vs : List Variable) (v : Variable) → Contains (with_variable vs v) v
with_has vs v =
    with_by (λ us. Contains us v) vs v (list_any (same_variable v) vs) refl (found_contains v vs)
    (λ _. contains_right vs (v ∷ []) v (contains_here v []))

with_only : (vs : List Variable) (v w : Variable) → Contains (with_variable vs v) w → Contains vs w ⊎ (v ≡ w)
with_only vs v w =
    with_by (λ us. Contains us w → Contains vs w ⊎ (v ≡ w)) vs v (list_any (same_variable v) vs) refl (λ _ c. inl c)
    (λ _ c. elim (contains_either vs (v ∷ []) w c) [ inl a ↦ inl a | inr b ↦ inr (contains_one v w b) ])

pub all_keep : (vs ws : List Variable) (w : Variable) → Contains vs w → Contains (fold with_variable vs ws) w
all_keep vs [] w c = c
all_keep vs (v ∷ ws) w c = all_keep (with_variable vs v) ws w (with_keeps vs v w c)

pub all_have : (vs ws : List Variable) (w : Variable) → Contains ws w → Contains (fold with_variable vs ws) w
all_have vs [] w c = absurd (contains_none w c)
all_have vs (v ∷ ws) w c =
    elim (contains_cases v w ws c) [
      | inl e ↦ all_keep (with_variable vs v) ws w (subst (Contains (with_variable vs v)) e (with_has vs v))
      | inr d ↦ all_have (with_variable vs v) ws w d
    ]

all_only : (vs ws : List Variable) (w : Variable) → Contains (fold with_variable vs ws) w
    → Contains vs w ⊎ Contains ws w
all_only vs [] w c = inl c
all_only vs (v ∷ ws) w c =
    elim (all_only (with_variable vs v) ws w c) [
      | inl a ↦
          elim (with_only vs v w a) [ inl b ↦ inl b | inr e ↦ inr (subst (Contains (v ∷ ws)) e (contains_here v ws)) ]
      | inr b ↦ inr (contains_later v w ws b)
    ]

with_different : (vs : List Variable) (v : Variable) → AllPairs (λ x y. x ≢ y) vs
    → AllPairs (λ x y. x ≢ y) (with_variable vs v)
with_different vs v h =
    with_by (AllPairs (λ x y. x ≢ y)) vs v (list_any (same_variable v) vs) refl (λ _. h)
    (λ e. all_pairs_push (λ x y. x ≢ y) vs v h
    (λ k d lt i. let c : list_any (same_variable v) vs
    ≡ true = contains_found v vs (subst (Contains vs) i (Contains-get_or vs k d lt)) in
    let x : true ≡ false = sym c ∙ e in cc))

all_different : (vs ws : List Variable) → AllPairs (λ x y. x ≢ y) vs
    → AllPairs (λ x y. x ≢ y) (fold with_variable vs ws)
all_different vs [] h = h
all_different vs (v ∷ ws) h = all_different (with_variable vs v) ws (with_different vs v h)

-- the list of a term's variables has those that occur
pub listed_occurs : (t : Tree) (v : Variable) → Contains (variables_of t) v ↔ Contains (occurrences t) v
listed_occurs t v = (
  λ c. elim (all_only [] (occurrences t) v c) [ inl a ↦ absurd (contains_none v a) | inr b ↦ b ],
  λ c. all_have [] (occurrences t) v c,
)

-- and none of them twice
pub listed_once : (t : Tree) → AllPairs (λ v w. v ≢ w) (variables_of t)
listed_once t = all_different [] (occurrences t) (λ i j d lt within. absurd (omega arith))
