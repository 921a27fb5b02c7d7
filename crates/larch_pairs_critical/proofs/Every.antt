-- What holds of each critical pair.
use Rattle.std.proofs.Common.{◌≡◌, ℕ, ◌||◌, cond, Bool, true, false, List, [], ◌∷◌, drop, Option, Some, None, Result}
use Rattle.std.proofs.Common.{Ok, Err, All, Contains, refl, sym, ◌∙◌}
use Rattle.std.proofs.Common.{subst}
use Rattle.std.proofs.lemmas.List.Elements.{All-nil, All-cons, All-head, All-tail, All-append}
use Rattle.larch_base.proofs.Lists.{all_from}
use Rattle.larch_base.proofs.Options.{some_inj}
use Rattle.larch_term.specs.Place.{at}
use Rattle.larch_term.specs.Tree.{Tree}
use Rattle.larch_term.specs.declared.substitution.Entry.{Entry}
use Rattle.larch_pairs.specs.Unify.{Oversize, a_term_is_too_large, is_large, unify}
use Rattle.larch_pairs_critical.proofs.Pairing.{after_pair, after_pair_is, from_unifier, named_within, no_place}
use Rattle.larch_pairs_critical.proofs.Pairing.{no_unifier, of_apart, pairs_of_one, pairs_of_two, too_large}
use Rattle.larch_pairs_critical.specs.Pairs.{apart, critical_pairs, inner_places, name_variables, pair_at, raw_pair}
use Rattle.larch_pairs_critical.specs.Pairs.{with_pair, with_pairs_at}
use Rattle.larch_pairs_critical.specs.declared.pair.Pair.{Pair}
use Rattle.larch_pairs_critical.specs.declared.pair.Rule.{Rule}
use Rattle.larch_pairs_critical.specs.declared.pair.Apart.{Apart}

abbrev Same : (X F : Type 0) → Result X F → Result X F → Type 0
Same X F x y = x ≡ y

ok_inj : {X F : Type 0} {x y : X} → Same X F (Ok x) (Ok y) → x ≡ y
ok_inj e = cc

-- what a pair comes from: what stands at the place, and the unifier
pub record From (one two : Apart) (p : List ℕ) (y : Pair) : Type 0 where
  pub here : Tree
  pub unifier : List Entry
  pub stands : at one.rule.left p ≡ Some here
  pub unifies : unify here two.rule.left ≡ Ok (Some unifier)
  pub is : name_variables (raw_pair one two p unifier) ≡ y

named_is : (x y : Pair) (b : Bool) → named_within (cond b (Err a_term_is_too_large) (Ok x)) ≡ Ok (Some y)
    → name_variables x ≡ y
named_is x y true e = cc
named_is x y false e = some_inj (ok_inj e)

from_answer : (one two : Apart) (p : List ℕ) (y : Pair) (t : Tree) (o : Result (Option (List Entry)) Oversize)
    → unify t two.rule.left ≡ o → at one.rule.left p ≡ Some t → pair_at one two p ≡ Ok (Some y) → From one two p y
from_answer one two p y t (Err x) u e h = let z = sym (too_large one two p t x e u) ∙ h in cc
from_answer one two p y t (Ok None) u e h = let z = sym (no_unifier one two p t e u) ∙ h in cc
from_answer one two p y t (Ok (Some s)) u e h =
    let raw = raw_pair one two p s in
    record {
      here = t;
      unifier = s;
      stands = e;
      unifies = u;
      is = named_is raw y (is_large raw.left || is_large raw.right) (sym (from_unifier one two p t s e u) ∙ h);
    }

from_place : (one two : Apart) (p : List ℕ) (y : Pair) (o : Option Tree) → at one.rule.left p ≡ o
    → pair_at one two p ≡ Ok (Some y) → From one two p y
from_place one two p y None e h = let z = sym (no_place one two p e) ∙ h in cc
from_place one two p y (Some t) e h = from_answer one two p y t (unify t two.rule.left) refl e h

-- each pair is made so
pub pair_from : (one two : Apart) (p : List ℕ) (y : Pair) → pair_at one two p ≡ Ok (Some y) → From one two p y
pair_from one two p y h = from_place one two p y (at one.rule.left p) refl h

-- what holds of the pair at a place
abbrev HoldsAt : (Pair → Type 0) → Apart → Apart → List ℕ → Type 0
HoldsAt P one two p = (y : Pair) → pair_at one two p ≡ Ok (Some y) → P y

one_more : (P : Pair → Type 0) (one two : Apart) (found : List Pair) (p : List ℕ) (o : Option Pair)
    → pair_at one two p ≡ Ok o
    → HoldsAt P one two p → All P found → All P (with_pair found o)
one_more P one two found p None e h k = k
one_more P one two found p (Some y) e h k = All-append P found (y ∷ []) k (All-cons P y [] (h y e) (All-nil P))

next_one : (P : Pair → Type 0) (one two : Apart) (p : List ℕ) (ps : List (List ℕ)) (found ys : List Pair)
    (o : Result (Option Pair) Oversize)
    → pair_at one two p ≡ o → HoldsAt P one two p → All P found
    → ((fs : List Pair) → All P fs → with_pairs_at one two fs ps ≡ Ok ys → All P ys)
    → after_pair one two found ps o ≡ Ok ys → All P ys
next_one P one two p ps found ys (Err x) a h k rest e = cc
next_one P one two p ps found ys (Ok o) a h k rest e = rest (with_pair found o) (one_more P one two found p o a h k) e

all_at : (P : Pair → Type 0) (one two : Apart) (ps : List (List ℕ)) (found ys : List Pair) → All (HoldsAt P one two) ps
    → All P found
    → with_pairs_at one two found ps ≡ Ok ys → All P ys
all_at P one two [] found ys h k e = subst (All P) (ok_inj e) k
all_at P one two (p ∷ ps) found ys h k e =
    next_one P one two p ps found ys (pair_at one two p) refl (All-head (HoldsAt P one two) p ps h) k
    (λ fs g x. all_at P one two ps fs ys (All-tail (HoldsAt P one two) p ps h) g x)
    (sym (after_pair_is one two found p ps) ∙ e)

but_first : {X : Type 0} (P : X → Type 0) (xs : List X) → All P xs → All P (drop 1 xs)
but_first P [] h = h
but_first P (x ∷ xs) h = All-tail P x xs h

-- what holds of the pair at each place holds of all pairs
pub all_pairs : (P : Pair → Type 0) (r q : Rule) (b : Bool) (ys : List Pair)
    → ((p : List ℕ) → Contains (inner_places (apart 1 r).rule.left) p → (y : Pair)
    → pair_at (apart 1 r) (apart 2 q) p ≡ Ok (Some y) → P y)
    → critical_pairs r q b ≡ Ok ys → All P ys
all_pairs P r q true ys h e =
    let ps = inner_places (apart 1 r).rule.left in
    all_at P (apart 1 r) (apart 2 q) (drop 1 ps) [] ys
    (but_first (HoldsAt P (apart 1 r) (apart 2 q)) ps (all_from (HoldsAt P (apart 1 r) (apart 2 q)) ps h))
    (All-nil P) (sym (of_apart r q true ∙ pairs_of_one (apart 1 r) (apart 2 q) true refl) ∙ e)
all_pairs P r q false ys h e =
    let ps = inner_places (apart 1 r).rule.left in
    all_at P (apart 1 r) (apart 2 q) ps [] ys (all_from (HoldsAt P (apart 1 r) (apart 2 q)) ps h) (All-nil P)
    (sym (of_apart r q false ∙ pairs_of_two (apart 1 r) (apart 2 q) false refl) ∙ e)
