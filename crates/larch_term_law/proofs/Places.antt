-- Laws of places.
use Rattle.std.proofs.Common.{◌≡◌, ℕ, zero, suc, List, [], ◌∷◌, ◌++◌, Option, Some, None, option_and_then, option_map}
use Rattle.std.proofs.Common.{refl, sym, ◌∙◌, ap, subst}
use Rattle.std.proofs.lemmas.Option.{option_and_then_some}
use Rattle.larch_term.specs.Operator.{PlainOperator}
use Rattle.larch_term.specs.Tree.{Tree, Forest, var, app, none, more}
use Rattle.larch_term.specs.Place.{at, argument, put, put_in}
use Rattle.larch_term.specs.Sorts.{sort_of, sorts_of, WellSorted, AllWellSorted, IsOver, AllOver}

option_and_then_nested : (q : List ℕ) (p : List ℕ) (o : Option Tree)
    → ((t : Tree) → at t (p ++ q) ≡ option_and_then (λ u. at u q) (at t p))
    → option_and_then (λ t. at t (p ++ q)) o ≡ option_and_then (λ u. at u q) (option_and_then (λ t. at t p) o)
option_and_then_nested q p None h = refl
option_and_then_nested q p (Some t) h = h t

-- a place goes on where its front leads to
pub at-append : (t : Tree) (p q : List ℕ) → at t (p ++ q) ≡ option_and_then (λ u. at u q) (at t p)
at-append t [] q = refl
at-append (var n s) (k ∷ p) q = refl
at-append (app f ts) (k ∷ p) q = option_and_then_nested q p (argument ts k) (λ t. at-append t p q)

-- the argument in which something is put
pub argument_put_in : (ts : Forest) (k : ℕ) (p : List ℕ) (v : Tree)
    → argument (put_in ts k p v) k ≡ option_map (λ t. put t p v) (argument ts k)
argument_put_in none k p v = refl
argument_put_in (more t ts) zero p v = refl
argument_put_in (more t ts) (suc zero) p v = refl
argument_put_in (more t ts) (suc (suc k)) p v = argument_put_in ts (suc k) p v

-- what is put at a place stands there
pub at_put : (t : Tree) (p : List ℕ) (u v : Tree) → at t p ≡ Some u → at (put t p v) p ≡ Some v
at_put t [] u v h = refl
at_put (var n s) (k ∷ p) u v h = cc
at_put (app f ts) (k ∷ p) u v h =
    option_and_then_some (λ w. at w p) (argument ts k) u h
    (λ w a b. ap (option_and_then (λ x. at x p)) (argument_put_in ts k p v ∙ ap (option_map (λ x. put x p v)) a)
    ∙ at_put w p u v b)

put_in_same : (ts : Forest) (k : ℕ) (p : List ℕ) (u t : Tree) → argument ts k ≡ Some t → put t p u ≡ t
    → put_in ts k p u ≡ ts
put_in_same none k p u t a e = refl
put_in_same (more x xs) zero p u t a e = refl
put_in_same (more x xs) (suc zero) p u t a e = let i : x ≡ t = cc in
    ap (λ y. more y xs) (ap (λ y. put y p u) i ∙ e ∙ sym i)
put_in_same (more x xs) (suc (suc k)) p u t a e = ap (more x) (put_in_same xs (suc k) p u t a e)

-- what stands at a place, put there, changes nothing
pub put_same : (t : Tree) (p : List ℕ) (u : Tree) → at t p ≡ Some u → put t p u ≡ t
put_same t [] u h = let e : t ≡ u = cc in sym e
put_same (var n s) (k ∷ p) u h = refl
put_same (app f ts) (k ∷ p) u h =
    option_and_then_some (λ w. at w p) (argument ts k) u h
    (λ w a b. ap (app f) (put_in_same ts k p u w a (put_same w p u b)))

sorts_put_in : (ts : Forest) (k : ℕ) (p : List ℕ) (v t : Tree) → argument ts k ≡ Some t
    → sort_of (put t p v) ≡ sort_of t → sorts_of (put_in ts k p v) ≡ sorts_of ts
sorts_put_in none k p v t a e = refl
sorts_put_in (more x xs) zero p v t a e = refl
sorts_put_in (more x xs) (suc zero) p v t a e =
    let i : x ≡ t = cc in ap (λ s. s ∷ sorts_of xs) (ap (λ y. sort_of (put y p v)) i ∙ e ∙ sym (ap sort_of i))
sorts_put_in (more x xs) (suc (suc k)) p v t a e = ap (λ ss. sort_of x ∷ ss) (sorts_put_in xs (suc k) p v t a e)

pub put_sort : (t : Tree) (p : List ℕ) (u v : Tree) → at t p ≡ Some u → sort_of v ≡ sort_of u
    → sort_of (put t p v) ≡ sort_of t
put_sort t [] u v h e = let i : t ≡ u = cc in e ∙ sym (ap sort_of i)
put_sort (var n s) (k ∷ p) u v h e = refl
put_sort (app f ts) (k ∷ p) u v h e = refl

well_sorted_argument : (ts : Forest) (k : ℕ) (t : Tree) → argument ts k ≡ Some t → AllWellSorted ts → WellSorted t
well_sorted_argument none k t a w = cc
well_sorted_argument (more u us) zero t a w = cc
well_sorted_argument (more u us) (suc zero) t a w = let i : u ≡ t = cc in subst WellSorted i w.0
well_sorted_argument (more u us) (suc (suc k)) t a w = well_sorted_argument us (suc k) t a w.1

-- subterms of a well sorted term are well sorted
pub at_well_sorted : (t : Tree) (p : List ℕ) (u : Tree) → at t p ≡ Some u → WellSorted t → WellSorted u
at_well_sorted t [] u h w = let i : t ≡ u = cc in subst WellSorted i w
at_well_sorted (var n s) (k ∷ p) u h w = cc
at_well_sorted (app f ts) (k ∷ p) u h w =
    option_and_then_some (λ x. at x p) (argument ts k) u h
    (λ x a b. at_well_sorted x p u b (well_sorted_argument ts k x a w.1))

well_sorted_put_in : (ts : Forest) (k : ℕ) (p : List ℕ) (v : Tree)
    → ((t : Tree) → argument ts k ≡ Some t → WellSorted (put t p v)) → AllWellSorted ts
    → AllWellSorted (put_in ts k p v)
well_sorted_put_in none k p v h w = tt
well_sorted_put_in (more x xs) zero p v h w = w
well_sorted_put_in (more x xs) (suc zero) p v h w = (h x refl, w.1)
well_sorted_put_in (more x xs) (suc (suc k)) p v h w = (w.0, well_sorted_put_in xs (suc k) p v h w.1)

-- a well sorted term of the same sort, put at a place, leaves the whole well sorted
pub put_well_sorted : (t : Tree) (p : List ℕ) (u v : Tree) → at t p ≡ Some u → sort_of v ≡ sort_of u → WellSorted t
    → WellSorted v → WellSorted (put t p v)
put_well_sorted t [] u v h e w x = x
put_well_sorted (var n s) (k ∷ p) u v h e w x = w
put_well_sorted (app f ts) (k ∷ p) u v h e w x =
    option_and_then_some (λ y. at y p) (argument ts k) u h
    (λ y a b. (
      sorts_put_in ts k p v y a (put_sort y p u v b e) ∙ w.0,
      well_sorted_put_in ts k p v
          (λ z c. let i : y ≡ z = cc in
          subst (λ q. WellSorted (put q p v)) i (put_well_sorted y p u v b e (well_sorted_argument ts k y a w.1) x))
          w.1,
    ))

over_argument : (fs : List PlainOperator) (ts : Forest) (k : ℕ) (t : Tree) → argument ts k ≡ Some t → AllOver fs ts
    → IsOver fs t
over_argument fs none k t a w = cc
over_argument fs (more u us) zero t a w = cc
over_argument fs (more u us) (suc zero) t a w = let i : u ≡ t = cc in subst (IsOver fs) i w.0
over_argument fs (more u us) (suc (suc k)) t a w = over_argument fs us (suc k) t a w.1

pub at_over : (fs : List PlainOperator) (t : Tree) (p : List ℕ) (u : Tree) → at t p ≡ Some u → IsOver fs t → IsOver fs u
at_over fs t [] u h w = let i : t ≡ u = cc in subst (IsOver fs) i w
at_over fs (var n s) (k ∷ p) u h w = cc
at_over fs (app f ts) (k ∷ p) u h w =
    option_and_then_some (λ x. at x p) (argument ts k) u h (λ x a b. at_over fs x p u b (over_argument fs ts k x a w.1))

mutual
  pub put_over : (fs : List PlainOperator) (t : Tree) (p : List ℕ) (v : Tree) → IsOver fs t → IsOver fs v
      → IsOver fs (put t p v)
  put_over fs t [] v w x = x
  put_over fs (var n s) (k ∷ p) v w x = w
  put_over fs (app f ts) (k ∷ p) v w x = (w.0, put_in_over fs ts k p v w.1 x)

  put_in_over : (fs : List PlainOperator) (ts : Forest) (k : ℕ) (p : List ℕ) (v : Tree) → AllOver fs ts → IsOver fs v
      → AllOver fs (put_in ts k p v)
  put_in_over fs none k p v w x = tt
  put_in_over fs (more y ys) zero p v w x = w
  put_in_over fs (more y ys) (suc zero) p v w x = (put_over fs y p v w.0 x, w.1)
  put_in_over fs (more y ys) (suc (suc k)) p v w x = (w.0, put_in_over fs ys (suc k) p v w.1 x)
