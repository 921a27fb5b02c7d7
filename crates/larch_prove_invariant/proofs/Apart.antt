-- Constants of different boxes are apart.
use Rattle.std.specs.Prelude.{◌≡◌, ◌≢◌, ℕ, suc, Bool, true, false, cond, List, [], ◌∷◌, ◌++◌, AllPairs, Contains, None}
use Rattle.std.specs.Prelude.{Some, option_map, refl}
use Rattle.std.specs.List.{flat_map}
use Rattle.std.specs.Option.{option_or}
use Rattle.std.proofs.Common.{ap, ap₂, arith, inl, inr, subst, sym, ◌∙◌}
use Rattle.std.proofs.lemmas.List.{append_assoc, append-nil}
use Rattle.std.proofs.lemmas.List.Elements.{All-append, All-contains}
use Rattle.std.proofs.lemmas.List.Kept.{AllPairs-cons}
use Rattle.larch_base.proofs.Lists.{all_from, pairs_head, pairs_tail}
use Rattle.larch_base.proofs.Members.{contains_here, contains_later, contains_left, contains_right, contains_cases}
use Rattle.larch_base.proofs.Members.{contains_none}
use Rattle.larch_term.specs.Operator.{PlainOperator}
use Rattle.larch_term.specs.OperatorKey.{operator_Decides, same_operator}
use Rattle.larch_calculus.specs.Theories.{AreConstants}
use Rattle.larch_derive.specs.OpenBox.{constant_of, place_from}
use Rattle.larch_derive.specs.declared.open_box.OpenBox.{OpenBox}
use Rattle.larch_methods.specs.DeriveBoxesBoxes.{AreOwnConstants}

not_placed_by : (k : ℕ) (g f : PlainOperator) (gs : List PlainOperator) (b : Bool) → (b ≡ true → ⊥)
    → place_from (suc k) gs f ≡ None → cond b (Some k) (place_from (suc k) gs f) ≡ None
not_placed_by k g f gs true h e = absurd (h refl)
not_placed_by k g f gs false h e = e

-- an operator that isn't in a list has no place there
not_placed : (k : ℕ) (fs : List PlainOperator) (f : PlainOperator) → (Contains fs f → ⊥) → place_from k fs f ≡ None
not_placed k [] f h = refl
not_placed k (g ∷ gs) f h =
    not_placed_by k g f gs (same_operator g f)
    (λ e. h (subst (Contains (g ∷ gs)) ((operator_Decides g f).0 e) (contains_here g gs)))
    (not_placed (suc k) gs f (λ c. h (contains_later g f gs c)))

-- so it stands for no constant of boxes that don't make it
pub not_constant : (bs : List OpenBox) (f : PlainOperator)
    → (Contains (flat_map (λ (y : OpenBox). y.constants) bs) f → ⊥)
    → constant_of bs f ≡ None
not_constant [] f h = refl
not_constant (b ∷ bs) f h =
    let rest = flat_map (λ (y : OpenBox). y.constants) bs in
    ap₂ (λ o p. option_or (option_map (λ k. (b.number, k)) o) p)
    (not_placed 1 b.constants f (λ c. h (contains_left b.constants rest f c)))
    (not_constant bs f (λ c. h (contains_right b.constants rest f c)))

-- pairs within the second part of a list, and across both
pub pairs_second : {X : Type 0} (R : X → X → Type 0) (xs ys : List X) → AllPairs R (xs ++ ys) → AllPairs R ys
pairs_second R [] ys h = h
pairs_second R (x ∷ xs) ys h = pairs_second R xs ys (pairs_tail R x (xs ++ ys) h)

pub pairs_across : {X : Type 0} (R : X → X → Type 0) (xs ys : List X) (x y : X) → AllPairs R (xs ++ ys) → Contains xs x
    → Contains ys y → R x y
pairs_across R [] ys x y h c d = absurd (contains_none x c)
pairs_across R (z ∷ xs) ys x y h c d = elim (contains_cases z x xs c) [
  | inl e ↦ subst (λ w. R w y) e
      (All-contains (R z) (xs ++ ys) y (pairs_head R z (xs ++ ys) h) (contains_right xs ys y d))
  | inr i ↦ pairs_across R xs ys x y (pairs_tail R z (xs ++ ys) h) i d
]

pub made_behind : (bs : List OpenBox) (x : OpenBox)
    → flat_map (λ (y : OpenBox). y.constants) (bs ++ x ∷ []) ≡ flat_map (λ (y : OpenBox). y.constants) bs ++ x.constants
made_behind [] x = append-nil x.constants
made_behind (b ∷ bs) x =
    ap (λ fs. b.constants ++ fs) (made_behind bs x)
    ∙ sym (append_assoc b.constants (flat_map (λ (y : OpenBox). y.constants) bs) x.constants)

-- where each constant of open boxes stands once, the innermost box has its own constants
pub innermost_own : (bs : List OpenBox) (x : OpenBox)
    → AllPairs (λ f g. f ≢ g) (flat_map (λ (y : OpenBox). y.constants) (bs ++ x ∷ [])) → AreConstants x.constants
    → AreOwnConstants bs x
innermost_own bs x h a =
    let made = flat_map (λ (y : OpenBox). y.constants) bs in
    let pairs = subst (AllPairs (λ f g. f ≢ g)) (made_behind bs x) h in
    record {
      constants = a;
      different = pairs_second (λ f g. f ≢ g) made x.constants pairs;
      outer = all_from (λ f. constant_of bs f ≡ None) x.constants (λ f c.
          not_constant bs f (λ d. pairs_across (λ g k. g ≢ k) made x.constants f f pairs d c refl));
    }

pub pairs_first : {X : Type 0} (R : X → X → Type 0) (xs ys : List X) → AllPairs R (xs ++ ys) → AllPairs R xs
pairs_first R [] ys h = λ i j d l m. absurd (omega (arith, m))
pairs_first R (x ∷ xs) ys h =
    AllPairs-cons R x xs
    (all_from (R x) xs (λ y c. All-contains (R x) (xs ++ ys) y (pairs_head R x (xs ++ ys) h) (contains_left xs ys y c)))
    (pairs_first R xs ys (pairs_tail R x (xs ++ ys) h))

pub pairs_append : {X : Type 0} (R : X → X → Type 0) (xs ys : List X) → AllPairs R xs → AllPairs R ys
    → ((x y : X) → Contains xs x → Contains ys y → R x y) → AllPairs R (xs ++ ys)
pairs_append R [] ys a b h = b
pairs_append R (x ∷ xs) ys a b h =
    AllPairs-cons R x (xs ++ ys)
    (All-append (R x) xs ys (pairs_head R x xs a) (all_from (R x) ys (λ y c. h x y (contains_here x xs) c)))
    (pairs_append R xs ys (pairs_tail R x xs a) b (λ z y c d. h z y (contains_later x z xs c) d))
