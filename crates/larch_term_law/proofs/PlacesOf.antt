-- The list of a term's places.
use Rattle.std.proofs.Common.{◌≡◌, ◌≢◌, ◌↔◌, ℕ, zero, suc, ◌+◌, ◌-◌, ◌<◌, ◌≤◌, ◌⊎◌, inl, inr, List, [], ◌∷◌, ◌++◌, map}
use Rattle.std.proofs.Common.{length, Option, Some, None, option_and_then, Contains, All, AllPairs, refl, sym, ◌∙◌, ap}
use Rattle.std.proofs.Common.{subst, arith}
use Rattle.std.proofs.lemmas.List.{map-append, length-append, length-map}
use Rattle.std.proofs.lemmas.List.Elements.{All-append}
use Rattle.std.proofs.lemmas.List.Kept.{AllPairs-cons}
use Rattle.std.proofs.lemmas.Option.{option_and_then_some}
use Rattle.larch_term.proofs.BaseLists.{map_map, map_by, all_from, pairs_head, pairs_tail, pairs_map}
use Rattle.larch_term.proofs.BaseMembers.{contains_here, contains_later, contains_cases, contains_none, contains_left}
use Rattle.larch_term.proofs.BaseMembers.{contains_right, contains_either, contains_map, contained_in_map}
use Rattle.larch_term.proofs.BaseOptions.{some_inj}
use Rattle.larch_term.specs.Operator.{PlainOperator}
use Rattle.larch_term.specs.Place.{at, argument, preorder, preorder_all, places, places_from}
use Rattle.larch_term.specs.Tree.{Tree, Forest, var, app, none, more, nodes, nodes_all}

-- a place below arguments before which a number of arguments stands
abbrev IsBelow : ℕ → Forest → List ℕ → Type 0
IsBelow k ts p =
    (j : ℕ) × (t : Tree) × (q : List ℕ) × (argument ts (suc j) ≡ Some t) × Contains (places t) q × (suc (k + j) ∷ q ≡ p)

below_later : (k : ℕ) (t : Tree) (ts : Forest) (p : List ℕ) → IsBelow (suc k) ts p → IsBelow k (more t ts) p
below_later k t ts p (j, u, q, a, c, e) =
    let n : suc (k + suc j) ≡ suc (suc k + j) = omega arith in (suc j, u, q, a, c, ap (λ m. m ∷ q) n ∙ e)

listed_below : (k : ℕ) (ts : Forest) (p : List ℕ) → Contains (places_from k ts) p → IsBelow k ts p
listed_below k none p c = absurd (contains_none p c)
listed_below k (more t ts) p c =
    elim (contains_either (map (λ q. suc k ∷ q) (places t)) (places_from (suc k) ts) p c) [
      | inl a ↦
          let m = contained_in_map (λ q. suc k ∷ q) (places t) p a in
          let n : suc (k + 0) ≡ suc k = omega arith in
          (zero, t, m.0, refl, m.1, ap (λ i. i ∷ m.0) n ∙ m.2)
      | inr b ↦ below_later k t ts p (listed_below (suc k) ts p b)
    ]

below_listed : (k j : ℕ) (ts : Forest) (t : Tree) (q : List ℕ) → argument ts (suc j) ≡ Some t → Contains (places t) q
    → Contains (places_from k ts) (suc (k + j) ∷ q)
below_listed k j none t q a c = cc
below_listed k zero (more u us) t q a c =
    let n : suc k ≡ suc (k + 0) = omega arith in
    contains_left (map (λ p. suc k ∷ p) (places u)) (places_from (suc k) us) (suc (k + 0) ∷ q)
    (subst (λ i. Contains (map (λ p. suc k ∷ p) (places u)) (i ∷ q)) n
    (contains_map (λ p. suc k ∷ p) (places u) q (subst (λ x. Contains (places x) q) (sym (some_inj a)) c)))
below_listed k (suc j) (more u us) t q a c =
    let n : suc (suc k + j) ≡ suc (k + suc j) = omega arith in
    contains_right (map (λ p. suc k ∷ p) (places u)) (places_from (suc k) us) (suc (k + suc j) ∷ q)
    (subst (λ i. Contains (places_from (suc k) us) (i ∷ q)) n (below_listed (suc k) j us t q a c))

no_argument_zero : (ts : Forest) → argument ts 0 ≡ None
no_argument_zero none = refl
no_argument_zero (more t ts) = refl

-- a place at which something stands is listed
pub place_is_listed : (t : Tree) (p : List ℕ) (u : Tree) → at t p ≡ Some u → Contains (places t) p
place_is_listed (var n s) [] u h = contains_here [] []
place_is_listed (app f ts) [] u h = contains_here [] (places_from 0 ts)
place_is_listed (var n s) (k ∷ p) u h = cc
place_is_listed (app f ts) (zero ∷ p) u h =
    let i : None ≡ Some u = sym (ap (option_and_then (λ w. at w p)) (no_argument_zero ts)) ∙ h in cc
place_is_listed (app f ts) (suc k ∷ p) u h =
    option_and_then_some (λ w. at w p) (argument ts (suc k)) u h
    (λ w a b.
    let n : suc (0 + k) ≡ suc k = omega arith in
    contains_later [] (suc k ∷ p) (places_from 0 ts)
    (subst (λ m. Contains (places_from 0 ts) (m ∷ p)) n (below_listed 0 k ts w p a (place_is_listed w p u b))))

-- what stands at a place below arguments before which a number of arguments stands
abbrev at_in : ℕ → Forest → List ℕ → Option Tree
at_in i ts [] = None
at_in i ts (k ∷ p) = option_and_then (λ w. at w p) (argument ts (k - i))

later_in : (i : ℕ) (t : Tree) (ts : Forest) (p : List ℕ) → IsBelow (suc i) ts p
    → at_in i (more t ts) p ≡ at_in (suc i) ts p
later_in i t ts p (j, u, q, a, c, e) =
    let d : suc (suc i + j) - i ≡ suc (suc j) = omega arith in
    let g : suc (suc i + j) - suc i ≡ suc j = omega arith in
    subst (λ x. at_in i (more t ts) x ≡ at_in (suc i) ts x) e
    (ap (λ m. option_and_then (λ w. at w q) (argument (more t ts) m)) d
    ∙ sym (ap (λ m. option_and_then (λ w. at w q) (argument ts m)) g))

first_in : (i : ℕ) (t : Tree) (ts : Forest) (q : List ℕ) → at_in i (more t ts) (suc i ∷ q) ≡ at t q
first_in i t ts q =
    let d : suc i - i ≡ 1 = omega arith in ap (λ m. option_and_then (λ w. at w q) (argument (more t ts) m)) d

in_whole : (f : PlainOperator) (ts : Forest) (p : List ℕ) → IsBelow 0 ts p → at (app f ts) p ≡ at_in 0 ts p
in_whole f ts p (j, u, q, a, c, e) =
    let d : suc (0 + j) ≡ suc (0 + j) - 0 = omega arith in
    subst (λ x. at (app f ts) x ≡ at_in 0 ts x) e (ap (λ m. option_and_then (λ w. at w q) (argument ts m)) d)

mutual
  -- the subterms at the places, in order, are all subterms in preorder
  pub subterms_at_places : (t : Tree) → map (at t) (places t) ≡ map Some (preorder t)
  subterms_at_places (var n s) = refl
  subterms_at_places (app f ts) =
      ap (λ us. Some (app f ts) ∷ us)
      (map_by (at (app f ts)) (at_in 0 ts) (places_from 0 ts) (λ p c. in_whole f ts p (listed_below 0 ts p c))
      ∙ subterms_at_places_in 0 ts)

  subterms_at_places_in : (i : ℕ) (ts : Forest) → map (at_in i ts) (places_from i ts) ≡ map Some (preorder_all ts)
  subterms_at_places_in i none = refl
  subterms_at_places_in i (more t ts) =
      let first : map (at_in i (more t ts)) (map (λ q. suc i ∷ q) (places t)) ≡ map Some (preorder t) =
      map_map (at_in i (more t ts)) (λ q. suc i ∷ q) (places t)
      ∙ map_by (λ q. at_in i (more t ts) (suc i ∷ q)) (at t) (places t) (λ q c. first_in i t ts q)
      ∙ subterms_at_places t in
      let rest : map (at_in i (more t ts)) (places_from (suc i) ts) ≡ map Some (preorder_all ts) =
      map_by (at_in i (more t ts)) (at_in (suc i) ts) (places_from (suc i) ts)
      (λ p c. later_in i t ts p (listed_below (suc i) ts p c))
      ∙ subterms_at_places_in (suc i) ts in
      map-append (at_in i (more t ts)) (map (λ q. suc i ∷ q) (places t)) (places_from (suc i) ts)
      ∙ (λ k. first k ++ rest k)
      ∙ sym (map-append Some (preorder t) (preorder_all ts))

-- something stands at each listed place
pub stands_at_listed : (t : Tree) (p : List ℕ) → Contains (places t) p → (u : Tree) × (at t p ≡ Some u)
stands_at_listed t p c =
    let m = contained_in_map Some (preorder t) (at t p)
    (subst (λ os. Contains os (at t p)) (subterms_at_places t) (contains_map (at t) (places t) p c)) in
    (m.0, sym m.2)

nil_not_cons : (k : ℕ) (p : List ℕ) → [] ≡ k ∷ p → ⊥
nil_not_cons k p e = cc

cons_first : (k j : ℕ) (p q : List ℕ) → k ∷ p ≡ j ∷ q → k ≡ j
cons_first k j p q e = cc

cons_rest : (k j : ℕ) (p q : List ℕ) → k ∷ p ≡ j ∷ q → p ≡ q
cons_rest k j p q e = cc

pairs_append : {X : Type 0} (R : X → X → Type 0) (xs ys : List X) → AllPairs R xs → AllPairs R ys
    → ((x y : X) → Contains xs x → Contains ys y → R x y) → AllPairs R (xs ++ ys)
pairs_append R [] ys a b h = b
pairs_append R (x ∷ xs) ys a b h =
    AllPairs-cons R x (xs ++ ys)
    (All-append (R x) xs ys (pairs_head R x xs a) (all_from (R x) ys (λ y c. h x y (contains_here x xs) c)))
    (pairs_append R xs ys (pairs_tail R x xs a) b (λ z y c d. h z y (contains_later x z xs c) d))

no_pairs : {X : Type 0} (R : X → X → Type 0) → AllPairs R []
no_pairs R = λ i j d lt within. absurd (omega arith)

one_is_no_pair : {X : Type 0} (R : X → X → Type 0) (x : X) → AllPairs R (x ∷ [])
one_is_no_pair R x = λ i j d lt within. absurd (omega arith)

mutual
  -- no place is listed twice
  pub listed_place_once : (t : Tree) → AllPairs (λ p q. p ≢ q) (places t)
  listed_place_once (var n s) = one_is_no_pair (λ p q. p ≢ q) []
  listed_place_once (app f ts) =
      AllPairs-cons (λ p q. p ≢ q) [] (places_from 0 ts)
      (all_from (λ q. [] ≢ q) (places_from 0 ts)
      (λ q c e. let w = listed_below 0 ts q c in nil_not_cons (suc (0 + w.0)) w.2 (e ∙ sym w.5)))
      (listed_in_once 0 ts)

  listed_in_once : (i : ℕ) (ts : Forest) → AllPairs (λ p q. p ≢ q) (places_from i ts)
  listed_in_once i none = no_pairs (λ p q. p ≢ q)
  listed_in_once i (more t ts) =
      pairs_append (λ p q. p ≢ q) (map (λ q. suc i ∷ q) (places t)) (places_from (suc i) ts)
      (pairs_map (λ p q. p ≢ q) (λ p q. p ≢ q) (λ q. suc i ∷ q) (places t)
      (λ p q c d h e. h (cons_rest (suc i) (suc i) p q e)) (listed_place_once t))
      (listed_in_once (suc i) ts)
      (λ p q c d e.
      let m = contained_in_map (λ q. suc i ∷ q) (places t) p c in
      let w = listed_below (suc i) ts q d in
      let n : suc i ≡ suc (suc i + w.0) = cons_first (suc i) (suc (suc i + w.0)) m.0 w.2 (m.2 ∙ e ∙ sym w.5) in
      absurd (omega (arith, n)))

mutual
  -- there are as many places as nodes
  pub count_of_places : (t : Tree) → length (places t) ≡ nodes t
  count_of_places (var n s) = refl
  count_of_places (app f ts) = omega (arith, count_of_places_in 0 ts)

  count_of_places_in : (i : ℕ) (ts : Forest) → length (places_from i ts) ≡ nodes_all ts
  count_of_places_in i none = refl
  count_of_places_in i (more t ts) =
      let m = length-map (places t) (λ q. suc i ∷ q) in
      let a = length-append (map (λ q. suc i ∷ q) (places t)) (places_from (suc i) ts) in
      omega (arith, a, m, count_of_places t, count_of_places_in (suc i) ts)
