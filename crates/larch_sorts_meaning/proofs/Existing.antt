-- Which sorts exist beside operators.
use Rattle.std.proofs.Common.{◌≡◌, ℕ, ◌⊎◌, inl, inr, Bool, true, false, cond, ◌||◌, List, [], ◌∷◌, ◌++◌, Contains}
use Rattle.std.proofs.Common.{bytes_eq, refl, sym, subst}
use Rattle.std.specs.Bool.{Decides}
use Rattle.std.specs.List.{list_any, flat_map, fold}
use Rattle.std.proofs.lemmas.Slice.Eq.{bytes_eq-Decides}
use Rattle.larch_base.proofs.Bools.{or_left, or_right}
use Rattle.larch_base.proofs.Members.{contains_here, contains_later, contains_cases, contains_none, contains_one}
use Rattle.larch_base.proofs.Members.{contains_left, contains_right, contains_either, contains_flat_map}
use Rattle.larch_base.proofs.Members.{contained_in_flat_map}
use Rattle.larch_term.specs.BuiltIn.{bool_sort}
use Rattle.larch_term.specs.Operator.{PlainOperator}
use Rattle.larch_sorts_known.specs.Sorts.{with_sort, existing_sorts, exists_sort}
use Rattle.larch_sorts_meaning.specs.Laws.{IsSortOf, sorts_of_operator}

here_or_later : (s x : List ℕ) (xs : List (List ℕ)) (b : Bool) → bytes_eq s x ≡ b
    → (list_any (bytes_eq s) xs ≡ true → Contains xs s)
    → (b || list_any (bytes_eq s) xs) ≡ true → Contains (x ∷ xs) s
here_or_later s x xs true q later h = subst (Contains (x ∷ xs)) (sym ((bytes_eq-Decides s x).0 q)) (contains_here x xs)
here_or_later s x xs false q later h = contains_later x s xs (later h)

-- a sort that is found in a list stands in it
pub any_contained : (s : List ℕ) (xs : List (List ℕ)) → list_any (bytes_eq s) xs ≡ true → Contains xs s
any_contained s [] e = cc
any_contained s (x ∷ xs) e = here_or_later s x xs (bytes_eq s x) refl (any_contained s xs) e

contained_any : (s : List ℕ) (xs : List (List ℕ)) → Contains xs s → list_any (bytes_eq s) xs ≡ true
contained_any s [] c = absurd (contains_none s c)
contained_any s (x ∷ xs) c =
    elim (contains_cases x s xs c) [
      | inl e ↦ or_left (bytes_eq s x) (list_any (bytes_eq s) xs) ((bytes_eq-Decides s x).1 (sym e))
      | inr d ↦ or_right (bytes_eq s x) (list_any (bytes_eq s) xs) (contained_any s xs d)
    ]

put_in : (xs : List (List ℕ)) (s z : List ℕ) (b : Bool) → Contains (cond b xs (xs ++ s ∷ [])) z
    → Contains xs z ⊎ (s ≡ z)
put_in xs s z true c = inl c
put_in xs s z false c = elim (contains_either xs (s ∷ []) z c) [ inl d ↦ inl d | inr d ↦ inr (contains_one s z d) ]

kept_in : (xs : List (List ℕ)) (s z : List ℕ) (b : Bool) → Contains xs z → Contains (cond b xs (xs ++ s ∷ [])) z
kept_in xs s z true c = c
kept_in xs s z false c = contains_left xs (s ∷ []) z c

new_in : (xs : List (List ℕ)) (s : List ℕ) (b : Bool) → list_any (bytes_eq s) xs ≡ b
    → Contains (cond b xs (xs ++ s ∷ [])) s
new_in xs s true e = any_contained s xs e
new_in xs s false e = contains_right xs (s ∷ []) s (contains_here s [])

-- what is gathered from a list stands there or was there before
gathered : (xs ys : List (List ℕ)) (z : List ℕ) → Contains (fold with_sort xs ys) z → Contains xs z ⊎ Contains ys z
gathered xs [] z c = inl c
gathered xs (y ∷ ys) z c =
    elim (gathered (with_sort xs y) ys z c) [
      | inl d ↦ elim (put_in xs y z (list_any (bytes_eq y) xs) d) [
        | inl a ↦ inl a
        | inr e ↦ inr (subst (Contains (y ∷ ys)) e (contains_here y ys))
      ]
      | inr d ↦ inr (contains_later y z ys d)
    ]

kept_before : (xs ys : List (List ℕ)) (z : List ℕ) → Contains xs z → Contains (fold with_sort xs ys) z
kept_before xs [] z c = c
kept_before xs (y ∷ ys) z c = kept_before (with_sort xs y) ys z (kept_in xs y z (list_any (bytes_eq y) xs) c)

taken_in : (xs ys : List (List ℕ)) (z : List ℕ) → Contains ys z → Contains (fold with_sort xs ys) z
taken_in xs [] z c = absurd (contains_none z c)
taken_in xs (y ∷ ys) z c =
    elim (contains_cases y z ys c) [
      | inl e ↦ subst (Contains (fold with_sort (with_sort xs y) ys)) e
          (kept_before (with_sort xs y) ys y (new_in xs y (list_any (bytes_eq y) xs) refl))
      | inr d ↦ taken_in (with_sort xs y) ys z d
    ]

-- an existing sort is Bool, or stands in an operator
pub existing_stands : (fs : List PlainOperator) (s : List ℕ) → Contains (existing_sorts fs) s → IsSortOf fs s
existing_stands fs s c =
    elim (gathered (bool_sort ∷ []) (flat_map sorts_of_operator fs) s c) [
      | inl d ↦ inl (sym (contains_one bool_sort s d))
      | inr d ↦ inr (contained_in_flat_map sorts_of_operator fs s d)
    ]

standing_exists : (fs : List PlainOperator) (s : List ℕ) → IsSortOf fs s → Contains (existing_sorts fs) s
standing_exists fs s (inl e) =
    subst (Contains (existing_sorts fs)) (sym e)
    (kept_before (bool_sort ∷ []) (flat_map sorts_of_operator fs) bool_sort (contains_here bool_sort []))
standing_exists fs s (inr (f, c, d)) =
    taken_in (bool_sort ∷ []) (flat_map sorts_of_operator fs) s (contains_flat_map sorts_of_operator fs f s c d)

-- the test for existing sorts tells exactly that
pub exists_Decides : (fs : List PlainOperator) (s : List ℕ) → Decides (exists_sort fs s) (IsSortOf fs s)
exists_Decides fs s = (
  λ e. existing_stands fs s (any_contained s (existing_sorts fs) e),
  λ h. contained_any s (existing_sorts fs) (standing_exists fs s h),
)
