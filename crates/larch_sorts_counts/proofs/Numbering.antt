-- Sorts by number.
use Rattle.std.proofs.Common.{◌≡◌, ℕ, ◌⊎◌, inl, inr, ◌+◌, ◌<◌, ◌≤◌, suc, Bool, true, false, not, cond, ◌||◌, nat_lt}
use Rattle.std.proofs.Common.{List, [], ◌∷◌, ◌++◌, Contains, Some, None, IfSome, bytes_eq, filter, take, get_or, length}
use Rattle.std.proofs.Common.{refl, sym, ◌∙◌, ap, subst, arith}
use Rattle.std.specs.List.{list_any, position}
use Rattle.std.specs.Map.{lookup}
use Rattle.std.specs.Prelude.{slice_get}
use Rattle.std.proofs.lemmas.Bool.{ltb-false}
use Rattle.std.proofs.lemmas.List.{take_more}
use Rattle.std.proofs.lemmas.Option.{slice_get-get_or}
use Rattle.std.proofs.lemmas.Slice.Eq.{bytes_eq-Decides}
use Rattle.larch_sorts_meaning.proofs.BaseMembers.{contained_in_filter, contains_cases, contains_here}
use Rattle.larch_sorts_meaning.proofs.BaseMembers.{contains_later, contains_none}
use Rattle.larch_sorts_meaning.proofs.BaseMembers.{contains_one}
use Rattle.larch_sorts_meaning.specs.TermEquality.{same_operator}
use Rattle.larch_sorts_meaning.specs.TermOperator.{PlainOperator}
use Rattle.larch_sorts_meaning.specs.TermOperatorKey.{operator_Decides}
use Rattle.larch_sorts_counts.specs.Count.{counts_made}
use Rattle.larch_sorts_counts.specs.Numbers.{AreDifferent, kept_numbers, number_of, numbers_under}
use Rattle.larch_sorts_counts.specs.declared.count.Count.{Count}
use Rattle.larch_sorts_counts.specs.declared.numbers.Numbered.{Numbered}

no_more_than : (b : Bool) (n m : ℕ) → n ≤ m → cond b (1 + n) 0 ≤ suc m
no_more_than true n m h = omega (arith, h)
no_more_than false n m h = omega arith

-- a number is at most that of all sorts
pub numbered_within : (s : List ℕ) (ss : List (List ℕ)) → number_of ss s ≤ length ss
numbered_within s [] = omega arith
numbered_within s (z ∷ ss) = no_more_than (not (bytes_eq s z)) (number_of ss s) (length ss) (numbered_within s ss)

none_within : (b : Bool) (n m : ℕ) → nat_lt n m ≡ b → n ≤ m → cond b (Some n) None ≡ None → m ≡ n
none_within true n m e h q = cc
none_within false n m e h q = let l = ltb-false n m e in omega (arith, l, h)

-- a sort that isn't there has the number of all sorts
pub number_of_none : (ss : List (List ℕ)) (s : List ℕ) → position (bytes_eq s) ss ≡ None → length ss ≡ number_of ss s
number_of_none ss s e =
    none_within (nat_lt (number_of ss s) (length ss)) (number_of ss s) (length ss) refl (numbered_within s ss) e

one_more : (n : ℕ) → 1 + n ≡ suc n
one_more n = omega arith

sort_by : (x : List ℕ) (xs : List (List ℕ)) (z s : List ℕ) (b : Bool) → bytes_eq z x ≡ b
    → slice_get (x ∷ xs) (cond (not b) (1 + number_of xs z) 0) ≡ Some s
    → (slice_get xs (number_of xs z) ≡ Some s → z ≡ s) → z ≡ s
sort_by x xs z s true e h k = (bytes_eq-Decides z x).0 e ∙ (let q : Some x ≡ Some s = h in cc)
sort_by x xs z s false e h k = k (subst (λ m. slice_get (x ∷ xs) m ≡ Some s) (one_more (number_of xs z)) h)

-- a number tells its sort
sort_numbered : (ss : List (List ℕ)) (z s : List ℕ) → slice_get ss (number_of ss z) ≡ Some s → z ≡ s
sort_numbered [] z s h = cc
sort_numbered (x ∷ xs) z s h = sort_by x xs z s (bytes_eq z x) refl h (sort_numbered xs z s)

-- a number below that of all sorts tells its sort
pub one_number : (ss : List (List ℕ)) (a z : List ℕ) → number_of ss a ≡ number_of ss z
    → number_of ss z < length ss → a ≡ z
one_number ss a z e l =
    let here : slice_get ss (number_of ss z) ≡ Some (get_or ss (number_of ss z) z) =
    slice_get-get_or ss (number_of ss z) z l in
    sort_numbered ss a (get_or ss (number_of ss z) z) (ap (slice_get ss) e ∙ here)
    ∙ sym (sort_numbered ss z (get_or ss (number_of ss z) z) here)

-- the counts of one name more are kept
module _ (size : ℕ) (names : List (List ℕ × List Numbered)) (old new : List (List ℕ × List Count))
    (name copied : List ℕ) (gs : List Numbered) (counts : List Count) where
  noted_by : (n : List ℕ) (b : Bool) → counts ≡ counts_made size [] (numbers_under names copied) → bytes_eq copied n ≡ b
      → IfSome (lookup (bytes_eq n) old) (λ cs. cs ≡ counts_made size [] (numbers_under names n))
      → IfSome (cond b (Some counts) (lookup (bytes_eq n) old)) (λ cs. cs ≡ counts_made size [] (numbers_under names n))
  noted_by n true made e h =
      subst (λ m. counts ≡ counts_made size [] (numbers_under names m)) ((bytes_eq-Decides copied n).0 e) made
  noted_by n false made e h = h

  pub word_noted : copied ≡ name → lookup (bytes_eq name) names ≡ Some gs → counts ≡ counts_made size [] gs
      → ((q : List ℕ) → lookup (bytes_eq q) new ≡ cond (bytes_eq copied q) (Some counts) (lookup (bytes_eq q) old))
      → (n : List ℕ)
      → IfSome (lookup (bytes_eq n) old) (λ cs. cs ≡ counts_made size [] (numbers_under names n))
      → IfSome (lookup (bytes_eq n) new) (λ cs. cs ≡ counts_made size [] (numbers_under names n))
  word_noted c some made put n h =
      subst (λ o. IfSome o (λ cs. cs ≡ counts_made size [] (numbers_under names n))) (sym (put n))
      (noted_by n (bytes_eq copied n)
      (made ∙ ap (λ o. counts_made size [] (kept_numbers o)) (sym (ap (λ m. lookup (bytes_eq m) names) c ∙ some)))
      refl h)

-- each name is left, or has what it is to have
module _ (target : List ℕ → List Numbered) (old new : List (List ℕ × List Numbered)) (name : List ℕ)
    (rest : List (List ℕ)) (gs : List Numbered) (is : gs ≡ target name)
    (put : (q : List ℕ) → lookup (bytes_eq q) new ≡ cond (bytes_eq name q) (Some gs) (lookup (bytes_eq q) old)) where
  name_by : (n : List ℕ) (b : Bool) → bytes_eq name n ≡ b → Contains (name ∷ rest) n ⊎ (numbers_under old n ≡ target n)
      → Contains rest n ⊎ (numbers_under new n ≡ target n)
  name_by n true q h =
      inr (ap kept_numbers (put n) ∙ ap (λ b. kept_numbers (cond b (Some gs) (lookup (bytes_eq n) old))) q ∙ is
      ∙ ap target ((bytes_eq-Decides name n).0 q))
  name_by n false q (inl c) =
      elim (contains_cases name n rest c)
      [ inl e ↦ absurd (let w : bytes_eq name n ≡ true = (bytes_eq-Decides name n).1 e in cc) | inr d ↦ inl d ]
  name_by n false q (inr e) =
      inr (ap kept_numbers (put n) ∙ ap (λ b. kept_numbers (cond b (Some gs) (lookup (bytes_eq n) old))) q ∙ e)

  pub name_kept : (n : List ℕ) → Contains (name ∷ rest) n ⊎ (numbers_under old n ≡ target n)
      → Contains rest n ⊎ (numbers_under new n ≡ target n)
  name_kept n h = name_by n (bytes_eq name n) refl h

-- one thing more that wasn't there
pub different_more : {X : Type 0} (xs : List X) (x : X) → AreDifferent xs → (Contains xs x → ⊥)
    → AreDifferent (xs ++ x ∷ [])
different_more [] x h n = (λ c. contains_none x c, tt)
different_more (y ∷ xs) x h n = (
  λ c. not_behind y xs x h.0 (λ e. n (subst (λ z. Contains (z ∷ xs) x) (sym e) (contains_here x xs))) c,
  different_more xs x h.1 (λ c. n (contains_later y x xs c)),
)
  where
    not_behind : {X : Type 0} (y : X) (xs : List X) (x : X) → (Contains xs y → ⊥) → (y ≡ x → ⊥)
        → Contains (xs ++ x ∷ []) y → ⊥
    not_behind y [] x a b c = b (sym (contains_one x y c))
    not_behind y (z ∷ xs) x a b c =
        elim (contains_cases z y (xs ++ x ∷ []) c) [
          | inl e ↦ a (subst (λ u. Contains (u ∷ xs) y) (sym e) (contains_here y xs))
          | inr d ↦ not_behind y xs x (λ k. a (contains_later z y xs k)) b d
        ]

neither : (a b : Bool) → a || b ≡ false → (a ≡ false) × (b ≡ false)
neither false b e = (refl, e)
neither true b e = cc

not_noted : (x : PlainOperator) (keys : List PlainOperator) → list_any (same_operator x) keys ≡ false
    → Contains keys x → ⊥
not_noted x [] e c = contains_none x c
not_noted x (k ∷ keys) e c =
    elim (contains_cases k x keys c) [
      | inl q ↦ let same : same_operator x k ≡ true = (operator_Decides x k).1 (sym q) in
          let n = neither (same_operator x k) (list_any (same_operator x) keys) e in cc
      | inr d ↦ not_noted x keys (neither (same_operator x k) (list_any (same_operator x) keys) e).1 d
    ]

-- one operator more is noted, and is none of those before
pub different_next : (fs : List PlainOperator) (i : ℕ) (y x : PlainOperator) (keys now : List PlainOperator)
    → i < length fs → y ≡ get_or fs i y → x ≡ y
    → now ≡ cond (list_any (same_operator x) keys) keys (keys ++ x ∷ []) → list_any (same_operator x) keys ≡ false
    → (keys ≡ take i fs) × AreDifferent (take i fs)
    → (now ≡ take (i + 1) fs) × AreDifferent (take (i + 1) fs)
different_next fs i y x keys now l e d put none h =
    let more : take i fs ++ x ∷ [] ≡ take (i + 1) fs =
    ap (λ z. take i fs ++ z ∷ []) (d ∙ e) ∙ sym (take_more fs i y l) in (
      put ∙ ap (λ b. cond b keys (keys ++ x ∷ [])) none ∙ ap (λ ks. ks ++ x ∷ []) h.0 ∙ more,
      subst AreDifferent more (different_more (take i fs) x h.1
          (subst (λ ks. Contains ks x → ⊥) h.0 (not_noted x keys none))),
    )

different_by : {X : Type 0} (p : X → Bool) (x : X) (xs : List X) (b : Bool) → (Contains xs x → ⊥)
    → AreDifferent (filter p xs) → AreDifferent (cond b (x ∷ filter p xs) (filter p xs))
different_by p x xs true n h = (λ c. n (contained_in_filter p xs x c).0, h)
different_by p x xs false n h = h

-- some of different things are different
pub different_filter : {X : Type 0} (p : X → Bool) (xs : List X) → AreDifferent xs → AreDifferent (filter p xs)
different_filter p [] h = tt
different_filter p (x ∷ xs) h = different_by p x xs (p x) h.0 (different_filter p xs h.1)
