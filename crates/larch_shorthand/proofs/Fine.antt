-- Terms and statements that are made of operators among others.
use Rattle.std.proofs.Common.{◌≡◌, refl, ℕ, List, [], ◌∷◌, map, All, Contains, ap, ap₂, sym, inl, inr}
use Rattle.std.proofs.lemmas.List.Elements.{All-nil, All-cons, All-head, All-tail}
use Rattle.larch_term.specs.BuiltIn.{bool_sort, built_in}
use Rattle.larch_term.specs.Operator.{PlainOperator}
use Rattle.larch_term.specs.Sorts.{AllOver, AllWellSorted, IsOver, WellSorted, sort_of, sorts_of}
use Rattle.larch_term.specs.Tree.{Tree, Forest, var, app, none, more, forest_of}
use Rattle.larch_term.specs.Truth.{truth}
use Rattle.larch_term.specs.declared.built_in.BuiltIn.TheVariants.{True, Unequal}
use Rattle.larch_term.specs.declared.statement.Statement.TheVariants.{Equation}
use Rattle.larch_traits_items.specs.SortsMeaningLaws.{ForestSorts, IsSortOf, TermSorts}
use Rattle.larch_traits_items.proofs.SortsMeaningSortsRead.{own_sorts}
use Rattle.larch_shorthand.specs.Operators.{constant, on, on_two}
use Rattle.larch_traits_items.proofs.Stated.{IsStated}

-- a well sorted term over operators, whose sorts are Bool or stand in these
abbrev pub Fine : List PlainOperator → Tree → Type 0
Fine fs t = WellSorted t × IsOver fs t × TermSorts (IsSortOf fs) t

-- the same of arguments
abbrev pub AllFine : List PlainOperator → Forest → Type 0
AllFine fs ts = AllWellSorted ts × AllOver fs ts × ForestSorts (IsSortOf fs) ts

module _ (fs : List PlainOperator) where
  pub fine_none : AllFine fs none
  fine_none = (tt, tt, tt)

  pub fine_more : (t : Tree) (ts : Forest) → Fine fs t → AllFine fs ts → AllFine fs (more t ts)
  fine_more t ts h k = ((h.0, k.0), (h.1, k.1), (h.2, k.2))

  pub fine_forest : (ts : List Tree) → All (Fine fs) ts → AllFine fs (forest_of ts)
  fine_forest [] h = fine_none
  fine_forest (t ∷ ts) h =
      fine_more t (forest_of ts) (All-head (Fine fs) t ts h) (fine_forest ts (All-tail (Fine fs) t ts h))

  pub fine_var : (n s : List ℕ) → IsSortOf fs s → Fine fs (var n s)
  fine_var n s h = (tt, tt, h)

  pub fine_app : (f : PlainOperator) (ts : Forest) → Contains fs f → sorts_of ts ≡ f.domain → AllFine fs ts
      → Fine fs (app f ts)
  fine_app f ts c e k = ((e, k.0), (inl c, k.1), (own_sorts fs f c, k.2))

  pub fine_constant : (f : PlainOperator) → Contains fs f → f.domain ≡ [] → Fine fs (constant f)
  fine_constant f c e = fine_app f none c (sym e) fine_none

  pub fine_on : (f : PlainOperator) (t : Tree) → Contains fs f → f.domain ≡ sort_of t ∷ [] → Fine fs t
      → Fine fs (on f t)
  fine_on f t c e h = fine_app f (more t none) c (sym e) (fine_more t none h fine_none)

  pub fine_on_two : (f : PlainOperator) (t u : Tree) → Contains fs f → f.domain ≡ sort_of t ∷ sort_of u ∷ [] → Fine fs t
      → Fine fs u → Fine fs (on_two f t u)
  fine_on_two f t u c e h k =
      fine_app f (more t (more u none)) c (sym e) (fine_more t (more u none) h (fine_more u none k fine_none))

  pub fine_unequal : (s : List ℕ) (t u : Tree) → IsSortOf fs s → sort_of t ≡ s → sort_of u ≡ s → Fine fs t → Fine fs u
      → Fine fs (on_two (built_in Unequal s) t u)
  fine_unequal s t u x p q h k =
      let r = fine_more t (more u none) h (fine_more u none k fine_none) in (
        (ap₂ (λ a b. a ∷ b ∷ []) p q, r.0),
        (inr (Unequal, (s, refl)), r.1),
        (
          All-cons (IsSortOf fs) s (s ∷ bool_sort ∷ []) x
              (All-cons (IsSortOf fs) s (bool_sort ∷ []) x
              (All-cons (IsSortOf fs) bool_sort [] (inl refl) (All-nil (IsSortOf fs)))),
          r.2,
        ),
      )

  pub fine_truth : Fine fs truth
  fine_truth = (
    (refl, tt),
    (inr (True, (bool_sort, refl)), tt),
    (All-cons (IsSortOf fs) bool_sort [] (inl refl) (All-nil (IsSortOf fs)), tt),
  )

  pub stated_equation : (l r : Tree) → Fine fs l → Fine fs r → sort_of l ≡ sort_of r → IsStated fs (Equation l r)
  stated_equation l r h k e = (((h.0, h.1), (k.0, k.1), e), tt, (h.2, k.2))

-- the sorts of arguments are those of the terms
pub sorts_of_forest : (ts : List Tree) → sorts_of (forest_of ts) ≡ map sort_of ts
sorts_of_forest [] = refl
sorts_of_forest (t ∷ ts) = ap (λ ss. sort_of t ∷ ss) (sorts_of_forest ts)
