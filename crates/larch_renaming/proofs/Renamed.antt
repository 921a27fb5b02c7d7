-- Renamed terms: sorts, operators, places, occurrences and sizes.
use Rattle.std.proofs.Common.{◌≡◌, ℕ, zero, suc, ◌+◌, List, [], ◌∷◌, ◌++◌, map, Option, Some, None, option_map}
use Rattle.std.proofs.Common.{option_and_then, refl, sym, ◌∙◌, ap, ap₂}
use Rattle.std.proofs.lemmas.List.{map-append}
use Rattle.larch_term.specs.Operator.{PlainOperator}
use Rattle.larch_term.specs.Place.{at, argument, put, put_in}
use Rattle.larch_term.specs.Sorts.{sort_of, sorts_of, WellSorted, AllWellSorted, IsOver, AllOver, IsTermOver}
use Rattle.larch_term.specs.Tree.{Tree, Forest, var, app, none, more, nodes, nodes_all}
use Rattle.larch_term.specs.Variable.{occurrences, occurrences_in}
use Rattle.larch_renaming.specs.Renaming.{Renaming, rename_tree, renamed_all, renamed_variable, no_renaming, after}
use Rattle.larch_renaming.specs.Renaming.{FitsSignatures, Carries, AreAlike, AreAlikeOver}

pub renamed_sort : (r : Renaming) → FitsSignatures r → (t : Tree) → sort_of (rename_tree r t) ≡ r.sort (sort_of t)
renamed_sort r h (var n s) = refl
renamed_sort r h (app f ts) = h.range f

pub renamed_sorts : (r : Renaming) → FitsSignatures r → (ts : Forest)
    → sorts_of (renamed_all r ts) ≡ map r.sort (sorts_of ts)
renamed_sorts r h none = refl
renamed_sorts r h (more t ts) = λ i. renamed_sort r h t i ∷ renamed_sorts r h ts i

mutual
  pub renamed_well_sorted : (r : Renaming) → FitsSignatures r → (t : Tree) → WellSorted t → WellSorted (rename_tree r t)
  renamed_well_sorted r h (var n s) w = tt
  renamed_well_sorted r h (app f ts) w =
      (renamed_sorts r h ts ∙ ap (map r.sort) w.0 ∙ sym (h.domain f), renamed_all_well_sorted r h ts w.1)

  pub renamed_all_well_sorted : (r : Renaming) → FitsSignatures r → (ts : Forest) → AllWellSorted ts
      → AllWellSorted (renamed_all r ts)
  renamed_all_well_sorted r h none w = tt
  renamed_all_well_sorted r h (more t ts) w = (renamed_well_sorted r h t w.0, renamed_all_well_sorted r h ts w.1)

mutual
  pub renamed_over : (r : Renaming) (fs gs : List PlainOperator) → Carries r fs gs → (t : Tree) → IsOver fs t
      → IsOver gs (rename_tree r t)
  renamed_over r fs gs k (var n s) o = tt
  renamed_over r fs gs k (app f ts) o = (k f o.0, renamed_all_over r fs gs k ts o.1)

  pub renamed_all_over : (r : Renaming) (fs gs : List PlainOperator) → Carries r fs gs → (ts : Forest) → AllOver fs ts
      → AllOver gs (renamed_all r ts)
  renamed_all_over r fs gs k none o = tt
  renamed_all_over r fs gs k (more t ts) o = (renamed_over r fs gs k t o.0, renamed_all_over r fs gs k ts o.1)

pub renamed_term_over : (r : Renaming) (fs gs : List PlainOperator) → FitsSignatures r → Carries r fs gs → (t : Tree)
    → IsTermOver fs t
    → IsTermOver gs (rename_tree r t)
renamed_term_over r fs gs h k t w = (renamed_well_sorted r h t w.0, renamed_over r fs gs k t w.1)

pub argument_renamed : (r : Renaming) (ts : Forest) (k : ℕ)
    → argument (renamed_all r ts) k ≡ option_map (rename_tree r) (argument ts k)
argument_renamed r none k = refl
argument_renamed r (more t ts) zero = refl
argument_renamed r (more t ts) (suc zero) = refl
argument_renamed r (more t ts) (suc (suc k)) = argument_renamed r ts (suc k)

mapped_then : (r : Renaming) (p : List ℕ) (o : Option Tree)
    → ((t : Tree) → at (rename_tree r t) p ≡ option_map (rename_tree r) (at t p))
    → option_and_then (λ u. at u p) (option_map (rename_tree r) o)
    ≡ option_map (rename_tree r) (option_and_then (λ u. at u p) o)
mapped_then r p None h = refl
mapped_then r p (Some t) h = h t

-- what stands at a place is renamed there
pub at_renamed : (r : Renaming) (t : Tree) (p : List ℕ) → at (rename_tree r t) p ≡ option_map (rename_tree r) (at t p)
at_renamed r t [] = refl
at_renamed r (var n s) (k ∷ p) = refl
at_renamed r (app f ts) (k ∷ p) =
    ap (option_and_then (λ u. at u p)) (argument_renamed r ts k)
    ∙ mapped_then r p (argument ts k) (λ t. at_renamed r t p)

-- to put and then rename is to rename and then put
mutual
  pub renamed_put : (r : Renaming) (t : Tree) (p : List ℕ) (v : Tree)
      → rename_tree r (put t p v) ≡ put (rename_tree r t) p (rename_tree r v)
  renamed_put r t [] v = refl
  renamed_put r (var n s) (k ∷ p) v = refl
  renamed_put r (app f ts) (k ∷ p) v = ap (app (r.operator f)) (renamed_put_in r ts k p v)

  pub renamed_put_in : (r : Renaming) (ts : Forest) (k : ℕ) (p : List ℕ) (v : Tree)
      → renamed_all r (put_in ts k p v) ≡ put_in (renamed_all r ts) k p (rename_tree r v)
  renamed_put_in r none k p v = refl
  renamed_put_in r (more t ts) zero p v = refl
  renamed_put_in r (more t ts) (suc zero) p v = ap (λ u. more u (renamed_all r ts)) (renamed_put r t p v)
  renamed_put_in r (more t ts) (suc (suc k)) p v = ap (more (rename_tree r t)) (renamed_put_in r ts (suc k) p v)

-- each occurrence of a variable becomes one at the other sort
mutual
  pub renamed_occurrences : (r : Renaming) (t : Tree)
      → occurrences (rename_tree r t) ≡ map (renamed_variable r) (occurrences t)
  renamed_occurrences r (var n s) = refl
  renamed_occurrences r (app f ts) = renamed_all_occurrences r ts

  pub renamed_all_occurrences : (r : Renaming) (ts : Forest)
      → occurrences_in (renamed_all r ts) ≡ map (renamed_variable r) (occurrences_in ts)
  renamed_all_occurrences r none = refl
  renamed_all_occurrences r (more t ts) =
      (λ i. renamed_occurrences r t i ++ renamed_all_occurrences r ts i)
      ∙ sym (map-append (renamed_variable r) (occurrences t) (occurrences_in ts))

mutual
  pub renamed_size : (r : Renaming) (t : Tree) → nodes (rename_tree r t) ≡ nodes t
  renamed_size r (var n s) = refl
  renamed_size r (app f ts) = ap (λ n. 1 + n) (renamed_all_size r ts)

  pub renamed_all_size : (r : Renaming) (ts : Forest) → nodes_all (renamed_all r ts) ≡ nodes_all ts
  renamed_all_size r none = refl
  renamed_all_size r (more t ts) = λ i. renamed_size r t i + renamed_all_size r ts i

-- the renaming that changes nothing
mutual
  pub renamed_unchanged : (t : Tree) → rename_tree no_renaming t ≡ t
  renamed_unchanged (var n s) = refl
  renamed_unchanged (app f ts) = ap (app f) (renamed_all_unchanged ts)

  pub renamed_all_unchanged : (ts : Forest) → renamed_all no_renaming ts ≡ ts
  renamed_all_unchanged none = refl
  renamed_all_unchanged (more t ts) = λ i. more (renamed_unchanged t i) (renamed_all_unchanged ts i)

-- one renaming after another
mutual
  pub renamed_after : (r q : Renaming) (t : Tree) → rename_tree (after r q) t ≡ rename_tree r (rename_tree q t)
  renamed_after r q (var n s) = refl
  renamed_after r q (app f ts) = ap (app (r.operator (q.operator f))) (renamed_all_after r q ts)

  pub renamed_all_after : (r q : Renaming) (ts : Forest) → renamed_all (after r q) ts ≡ renamed_all r (renamed_all q ts)
  renamed_all_after r q none = refl
  renamed_all_after r q (more t ts) = λ i. more (renamed_after r q t i) (renamed_all_after r q ts i)

-- renamings that do the same give one term
mutual
  pub renamed_alike : (r q : Renaming) → AreAlike r q → (t : Tree) → rename_tree r t ≡ rename_tree q t
  renamed_alike r q h (var n s) = ap (var n) (h.sorts s)
  renamed_alike r q h (app f ts) = λ i. app (h.operators f i) (renamed_all_alike r q h ts i)

  pub renamed_all_alike : (r q : Renaming) → AreAlike r q → (ts : Forest) → renamed_all r ts ≡ renamed_all q ts
  renamed_all_alike r q h none = refl
  renamed_all_alike r q h (more t ts) = λ i. more (renamed_alike r q h t i) (renamed_all_alike r q h ts i)

mutual
  pub renamed_alike_over : (r q : Renaming) (fs : List PlainOperator) → AreAlikeOver r q fs → (t : Tree) → IsOver fs t
      → rename_tree r t ≡ rename_tree q t
  renamed_alike_over r q fs h (var n s) o = ap (var n) (h.sorts s)
  renamed_alike_over r q fs h (app f ts) o = λ i. app (h.operators f o.0 i) (renamed_all_alike_over r q fs h ts o.1 i)

  pub renamed_all_alike_over : (r q : Renaming) (fs : List PlainOperator) → AreAlikeOver r q fs → (ts : Forest)
      → AllOver fs ts
      → renamed_all r ts ≡ renamed_all q ts
  renamed_all_alike_over r q fs h none o = refl
  renamed_all_alike_over r q fs h (more t ts) o =
      λ i. more (renamed_alike_over r q fs h t o.0 i) (renamed_all_alike_over r q fs h ts o.1 i)
