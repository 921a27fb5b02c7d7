-- What the last test says where it finds nothing.
use Rattle.std.specs.Prelude.{◌≡◌, ◌+◌, ◌==◌, ℕ, zero, suc, Bool, true, false, List, [], ◌∷◌, ◌++◌, All, Contains}
use Rattle.std.specs.Prelude.{Option, Some, None, Result, Ok, Err, refl}
use Rattle.std.specs.List.{slice_get}
use Rattle.std.proofs.Common.{arith, ap, sym, subst, ◌∙◌, inl, inr}
use Rattle.std.proofs.lemmas.List.Elements.{All-nil, All-cons}
use Rattle.larch_base.proofs.Members.{contains_cases, contains_here, contains_later, contains_left, contains_none}
use Rattle.larch_base.proofs.Members.{contains_right}
use Rattle.larch_term.specs.Equality.{same_tree}
use Rattle.larch_term.specs.declared.statement.Theory.{Theory}
use Rattle.larch_term.proofs.Decided.{tree_Decides}
use Rattle.larch_rewrite_meaning.specs.Sides.{Sides}
use Rattle.larch_rewrite_meaning.specs.Work.{Made}
use Rattle.larch_complete_meaning.specs.Steps.{Step, after}
use Rattle.larch_complete_meaning.specs.Completion.{Decides, HasOneForm, complete, equations_of, task_of}
use Rattle.larch_complete_meaning.specs.LastTest.{first_apart, first_apart_in, unless_found}
use Rattle.larch_complete_meaning.specs.Pairs.{pairs_from, pairs_in, pairs_in_each, pairs_of_all}
use Rattle.larch_complete_meaning.specs.Rounds.{Task, reduce}
use Rattle.larch_complete_meaning.specs.declared.answer.CompletionAnswer.TheVariants.{Complete}
use Rattle.larch_complete_meaning.proofs.Ending.{Passes, complete_passes}
use Rattle.larch_complete_meaning.proofs.Reducing.{forms_found}

-- ---- equations

-- what further tests find, unless an equation is the first one
abbrev apart_or : Bool → Step (Option Sides) → Sides → Step (Option Sides)
apart_or b further e = elim b [ true ↦ further | false ↦ Ok (Some e) ]

-- a test of an equation finds nothing, nor do those behind it
joins_by : (task : Task) (rules : List Sides) (e : Sides) (es : List Sides) (found : Sides) (b : Bool)
    → reduce task rules e ≡ Ok found → same_tree found.left found.right ≡ b
    → apart_or b (first_apart task rules es) e ≡ Ok None
    → HasOneForm rules task.budget e × (first_apart task rules es ≡ Ok None)
joins_by task rules e es found true r s h =
    let f = forms_found rules task.budget e found r in
    let q = (tree_Decides found.left found.right).0 s in (
      record {
        form = found.left;
        between = f.between;
        rest = f.rest;
        left = f.left;
        right = f.right ∙ ap (λ t. Made t f.rest) (sym q);
      },
      h,
    )
joins_by task rules e es found false r s h = cc

joins_from : (task : Task) (rules : List Sides) (e : Sides) (es : List Sides) (s : Step Sides)
    → reduce task rules e ≡ s
    → after s (λ found. apart_or (same_tree found.left found.right) (first_apart task rules es) e) ≡ Ok None
    → HasOneForm rules task.budget e × (first_apart task rules es ≡ Ok None)
joins_from task rules e es (Ok found) r h =
    joins_by task rules e es found (same_tree found.left found.right) r refl h
joins_from task rules e es (Err answer) r h = cc

all_join : (task : Task) (rules es : List Sides) → first_apart task rules es ≡ Ok None
    → All (HasOneForm rules task.budget) es
all_join task rules [] h = All-nil (HasOneForm rules task.budget)
all_join task rules (e ∷ es) h =
    let k = joins_from task rules e es (reduce task rules e) refl h in
    All-cons (HasOneForm rules task.budget) e es k.0 (all_join task rules es k.1)

-- ---- lists of equations

-- a list isn't refused, and each of its equations has one form
abbrev JoinsAll : Task → List Sides → Step (List Sides) → Type 0
JoinsAll task rules group = (es : List Sides) × ((group ≡ Ok es) × All (HasOneForm rules task.budget) es)

found_none : (further s : Step (Option Sides)) → after s (λ found. unless_found further found) ≡ Ok None
    → (s ≡ Ok None) × (further ≡ Ok None)
found_none further (Ok None) h = (refl, h)
found_none further (Ok (Some e)) h = cc
found_none further (Err answer) h = cc

group_joins : (task : Task) (rules : List Sides) (group : Step (List Sides)) (further : Step (Option Sides))
    → after group (λ es. after (first_apart task rules es) (λ found. unless_found further found)) ≡ Ok None
    → JoinsAll task rules group × (further ≡ Ok None)
group_joins task rules (Ok es) further h =
    let k = found_none further (first_apart task rules es) h in
    ((es, (refl, all_join task rules es k.0)), k.1)
group_joins task rules (Err answer) further h = cc

groups_join : (task : Task) (rules : List Sides) (groups : List (Step (List Sides)))
    → first_apart_in task rules groups ≡ Ok None → (group : Step (List Sides)) → Contains groups group
    → JoinsAll task rules group
groups_join task rules [] h group c = absurd (contains_none group c)
groups_join task rules (first ∷ groups) h group c =
    let k = group_joins task rules first (first_apart_in task rules groups) h in
    elim (contains_cases first group groups c) [
      | inl e ↦ subst (JoinsAll task rules) e k.0
      | inr d ↦ groups_join task rules groups k.1 group d
    ]

-- ---- pairs of rules at their places

in_second : (i : ℕ) (r : Sides) (k : ℕ) (qs : List Sides) (j : ℕ) (q : Sides) → slice_get qs j ≡ Some q
    → Contains (pairs_from i r k qs) (pairs_in r q (i == (k + j)))
in_second i r k [] j q h = cc
in_second i r k (p ∷ qs) zero q h =
    let e : p ≡ q = cc in
    let n : k ≡ k + 0 = omega arith in
    subst (Contains (pairs_from i r k (p ∷ qs)))
    (ap (λ m. pairs_in r p (i == m)) n ∙ ap (λ s. pairs_in r s (i == (k + 0))) e)
    (contains_here (pairs_in r p (i == k)) (pairs_from i r (suc k) qs))
in_second i r k (p ∷ qs) (suc j) q h =
    let n : suc k + j ≡ k + suc j = omega arith in
    subst (Contains (pairs_from i r k (p ∷ qs))) (ap (λ m. pairs_in r q (i == m)) n)
    (contains_later (pairs_in r p (i == k)) (pairs_in r q (i == (suc k + j))) (pairs_from i r (suc k) qs)
    (in_second i r (suc k) qs j q h))

in_first : (rules : List Sides) (k : ℕ) (rs : List Sides) (i : ℕ) (r : Sides) → slice_get rs i ≡ Some r
    → (group : Step (List Sides)) → Contains (pairs_from (k + i) r 0 rules) group
    → Contains (pairs_in_each rules k rs) group
in_first rules k [] i r h group c = cc
in_first rules k (s ∷ rs) zero r h group c =
    let e : s ≡ r = cc in
    let n : k + 0 ≡ k = omega arith in
    contains_left (pairs_from k s 0 rules) (pairs_in_each rules (suc k) rs) group
    (subst (λ t. Contains (pairs_from k t 0 rules) group) (sym e)
    (subst (λ m. Contains (pairs_from m r 0 rules) group) n c))
in_first rules k (s ∷ rs) (suc i) r h group c =
    let n : k + suc i ≡ suc k + i = omega arith in
    contains_right (pairs_from k s 0 rules) (pairs_in_each rules (suc k) rs) group
    (in_first rules (suc k) rs i r h group (subst (λ m. Contains (pairs_from m r 0 rules) group) n c))

pair_tested : (rules : List Sides) (i j : ℕ) (r q : Sides) → slice_get rules i ≡ Some r → slice_get rules j ≡ Some q
    → Contains (pairs_of_all rules) (pairs_in r q (i == j))
pair_tested rules i j r q h k =
    let m : i ≡ 0 + i = omega arith in
    let n : 0 + j ≡ j = omega arith in
    in_first rules 0 rules i r h (pairs_in r q (i == j))
    (subst (λ l. Contains (pairs_from l r 0 rules) (pairs_in r q (i == j))) m
    (subst (λ l. Contains (pairs_from i r 0 rules) (pairs_in r q (i == l))) n (in_second i r 0 rules j q k)))

-- ---- the end

passing_decides : (task : Task) (rules : List Sides) → Passes task rules → Decides rules task.budget task.equations
passing_decides task rules h =
    let k = group_joins task rules (Ok task.equations) (first_apart_in task rules (pairs_of_all rules)) h in
    record {
      equations_join = equations k.0;
      pairs_join = λ i j r q e d. groups_join task rules (pairs_of_all rules) k.1 (pairs_in r q (i == j))
          (pair_tested rules i j r q e d);
    }
  where
    equations : JoinsAll task rules (Ok task.equations) → All (HasOneForm rules task.budget) task.equations
    equations m = let p : m.0 ≡ task.equations = cc in subst (All (HasOneForm rules task.budget)) p m.1.1

pub complete_decides : (theory : Theory) (limit : ℕ) → (complete theory limit).answer ≡ Complete
    → Decides (complete theory limit).rules limit (equations_of theory)
complete_decides theory limit h =
    passing_decides (task_of theory limit) (complete theory limit).rules (complete_passes theory limit h)
