-- What the test for pairs that are apart tells.
use Rattle.std.proofs.Common.{◌≡◌, Bool, true, not, ◌||◌, inl, inr}
use Rattle.std.proofs.Common.{List, [], ◌∷◌, Contains, refl, sym, ◌∙◌, ap, subst}
use Rattle.std.specs.Prelude.{bytes_eq}
use Rattle.std.specs.Bool.{Decides}
use Rattle.std.specs.List.{list_all}
use Rattle.std.proofs.lemmas.Slice.Eq.{bytes_eq-Decides}
use Rattle.larch_base.proofs.Bools.{true_or_false, and_left, and_right, and_both}
use Rattle.larch_base.proofs.Members.{contains_here, contains_later, contains_cases, contains_none}
use Rattle.larch_import_names.specs.Apartness.{AreApart, is_apart}
use Rattle.larch_import_names.specs.declared.pairs.SortPair.{SortPair}

all_told : {X : Type 0} (t : X → Bool) (xs : List X) → list_all t xs ≡ true → (x : X) → Contains xs x → t x ≡ true
all_told t [] e x c = absurd (contains_none x c)
all_told t (y ∷ ys) e x c =
    elim (contains_cases y x ys c) [
      | inl p ↦ subst (λ z. t z ≡ true) p (and_left (t y) (list_all t ys) e)
      | inr d ↦ all_told t ys (and_right (t y) (list_all t ys) e) x d
    ]

all_pass : {X : Type 0} (t : X → Bool) (xs : List X) → ((x : X) → Contains xs x → t x ≡ true) → list_all t xs ≡ true
all_pass t [] f = refl
all_pass t (y ∷ ys) f =
    and_both (t y) (list_all t ys) (f y (contains_here y ys))
    (all_pass t ys (λ x c. f x (contains_later y x ys c)))

apart_told : (p q : SortPair) → is_apart p q ≡ true → p.new ≡ q.new → p.old ≡ q.old
apart_told p q h e =
    let same = (bytes_eq-Decides p.new q.new).1 e in
    (bytes_eq-Decides p.old q.old).0 (sym (ap (λ b. not b || bytes_eq p.old q.old) same) ∙ h)

apart_passed : (p q : SortPair) → (p.new ≡ q.new → p.old ≡ q.old) → is_apart p q ≡ true
apart_passed p q f =
    elim (true_or_false (bytes_eq p.new q.new)) [
      | inl y ↦ ap (λ b. not b || bytes_eq p.old q.old) y
          ∙ (bytes_eq-Decides p.old q.old).1 (f ((bytes_eq-Decides p.new q.new).0 y))
      | inr n ↦ ap (λ b. not b || bytes_eq p.old q.old) n
    ]

pub are_apart_Decides : (ps : List SortPair) → Decides (list_all (λ p. list_all (is_apart p) ps) ps) (AreApart ps)
are_apart_Decides ps = (
  λ h p q c d e. apart_told p q (all_told (is_apart p) ps (all_told (λ r. list_all (is_apart r) ps) ps h p c) q d) e,
  λ a. all_pass (λ r. list_all (is_apart r) ps) ps
      (λ p c. all_pass (is_apart p) ps (λ q d. apart_passed p q (a p q c d))),
)

pub apart_by : (r : Bool) (ps qs : List SortPair) → r ≡ list_all (λ p. list_all (is_apart p) ps) ps → ps ≡ qs
    → Decides r (AreApart qs)
apart_by r ps qs e s =
    let d = are_apart_Decides ps in
    (λ h. subst AreApart s (d.0 (sym e ∙ h)), λ a. e ∙ d.1 (subst AreApart (sym s) a))
