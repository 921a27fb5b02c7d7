-- The left side of a fact is no variable.
use Rattle.std.specs.Prelude.{◌≡◌, ℕ, zero, suc, Bool, true, false, cond, ◌||◌, List, [], ◌∷◌, ◌++◌, All, bytes_eq}
use Rattle.std.specs.Prelude.{Option}
use Rattle.std.specs.Prelude.{Some, None, refl}
use Rattle.std.proofs.Common.{subst}
use Rattle.std.proofs.lemmas.List.Elements.{All-push}
use Rattle.larch_base.specs.declared.fact_name.FactName.{FactName}
use Rattle.larch_term.specs.BuiltIn.{bool_sort}
use Rattle.larch_term.specs.Equality.{same_tree}
use Rattle.larch_term.specs.Sorts.{sort_of}
use Rattle.larch_term.specs.Truth.{truth}
use Rattle.larch_term.specs.Tree.{Tree, var, app}
use Rattle.larch_rewrite_meaning.specs.CalculusFormula.{equivalence, equality}
use Rattle.larch_pairs_critical.specs.Overlap.{IsApplication}
use Rattle.larch_order.specs.Greater.{greater}
use Rattle.larch_order.specs.declared.precedence.Ranked.{Ranked}
use Rattle.larch_rewrite_meaning.specs.Sides.{Sides, flip}
use Rattle.larch_rewrite_meaning.specs.Work.{Work, Made, OverLimit, OverSize, then_work, is_large, within_size}
use Rattle.larch_prove_meaning.specs.Facts.{Fact, Facts, Manner, Treatment, Drop, Contradict, Replace, Keep, serving}
use Rattle.larch_prove_meaning.specs.Facts.{is_value, truth_to_right, deduce, equality_term, orient, replaced_or_kept}
use Rattle.larch_prove_meaning.specs.Facts.{treatment_of, treatment, with_rule, with_contradiction, is_full}
use Rattle.larch_prove_meaning.specs.Facts.{normal_sides, add_waiting, add, most_taken}
use Rattle.larch_prove_meaning.proofs.AddingSorts.{made_term, within_made}

-- no left side is a variable
abbrev RewriteApplications : List Fact → Type 0
RewriteApplications facts = All (λ fact. IsApplication fact.sides.left) facts

-- no variable is greater than a term
greater_application : (ranks : List Ranked) (s t : Tree) → greater ranks s t ≡ true → IsApplication s
greater_application ranks (var n s) t e = cc
greater_application ranks (app f ts) t e = tt

equated_application : (e : Sides) → IsApplication (equality_term e)
equated_application e = by_sort (bytes_eq (sort_of e.left) bool_sort)
  where
    by_sort : (b : Bool)
        → IsApplication (cond b (equivalence e.left e.right) (equality (sort_of e.left) e.left e.right))
    by_sort true = tt
    by_sort false = tt

oriented_application : (ranks : List Ranked) (e : Sides) → IsApplication (orient ranks e).left
oriented_application ranks e =
    by_order (greater ranks e.left e.right) (greater ranks e.right e.left)
    (greater_application ranks e.left e.right) (greater_application ranks e.right e.left)
  where
    by_order : (l r : Bool) → (l ≡ true → IsApplication e.left) → (r ≡ true → IsApplication e.right)
        → (let made : Sides = cond l e (cond r (flip e) (record { left = equality_term e; right = truth })) in
        IsApplication made.left)
    by_order true r p q = p refl
    by_order false true p q = q refl
    by_order false false p q = equated_application e

-- a rule that is made of an equation rewrites an application
abbrev KeepsApplications : Treatment → Type 0
KeepsApplications Drop = Unit {0}
KeepsApplications Contradict = Unit {0}
KeepsApplications (Replace others) = Unit {0}
KeepsApplications (Keep rule) = IsApplication rule.left

replaced_application : (ranks : List Ranked) (e : Sides) (o : Option (List Sides))
    → KeepsApplications (replaced_or_kept ranks e o)
replaced_application ranks e None = oriented_application ranks e
replaced_application ranks e (Some found) = tt

treated_application : (ranks : List Ranked) (e : Sides) → KeepsApplications (treatment_of ranks e)
treated_application ranks e = by_value (is_value e.left)
  where
    by_value : (v : Bool)
        → KeepsApplications (elim v [ true ↦ Contradict | false ↦ replaced_or_kept ranks e (deduce e) ])
    by_value true = tt
    by_value false = replaced_application ranks e (deduce e)

treatment_application : (ranks : List Ranked) (e : Sides) → KeepsApplications (treatment ranks e)
treatment_application ranks e = by_test (same_tree e.left e.right)
  where
    by_test : (t : Bool) → KeepsApplications (elim t [ true ↦ Drop | false ↦ treatment_of ranks (truth_to_right e) ])
    by_test true = tt
    by_test false = treated_application ranks (truth_to_right e)

-- an adding of these equations to these facts adds no rule that rewrites a variable
abbrev AddsApplications : (ℕ → List Sides → Facts → ℕ → Work Facts) → Type 0
AddsApplications adds = (part : ℕ) (waiting : List Sides) (facts : Facts) (b : ℕ) (made : Facts) (r : ℕ)
    → RewriteApplications facts.rules → adds part waiting facts b ≡ Made made r → RewriteApplications made.rules

by_treatment : (n : ℕ) (manner : Manner) (part : ℕ) (waiting : List Sides) (facts : Facts) (c : ℕ) (made : Facts)
    (r : ℕ) (t : Treatment) → AddsApplications (add_waiting n manner) → RewriteApplications facts.rules
    → KeepsApplications t
    → (elim t [
      | Drop ↦ add_waiting n manner part waiting facts c
      | Contradict ↦ add_waiting n manner part waiting (with_contradiction facts) c
      | Replace others ↦ add_waiting n manner part (others ++ waiting) facts c
      | Keep rule ↦ within_size (is_large rule.left || is_full facts)
          (add_waiting n manner (suc part) waiting (with_rule manner.name (suc part) rule facts) c)
    ]) ≡ Made made r
    → RewriteApplications made.rules
by_treatment n manner part waiting facts c made r Drop go f t h = go part waiting facts c made r f h
by_treatment n manner part waiting facts c made r Contradict go f t h =
    go part waiting (with_contradiction facts) c made r f h
by_treatment n manner part waiting facts c made r (Replace others) go f t h = go part
    (others ++ waiting) facts c made r f h
by_treatment n manner part waiting facts c made r (Keep rule) go f t h =
    let name : FactName = manner.name in
    go (suc part) waiting (with_rule name (suc part) rule facts) c made r
    (All-push (λ fact. IsApplication fact.sides.left) facts.rules
    (record { name = record name { part = suc part }; sides = rule }) f t)
    (within_made (is_large rule.left || is_full facts)
    (add_waiting n manner (suc part) waiting (with_rule name (suc part) rule facts) c) made r h)

by_sides : (n : ℕ) (manner : Manner) (part : ℕ) (waiting : List Sides) (facts : Facts) (made : Facts) (r : ℕ)
    (w : Work Sides) → AddsApplications (add_waiting n manner) → RewriteApplications facts.rules
    → then_work w (λ found c. elim (treatment manner.ranks found) [
      | Drop ↦ add_waiting n manner part waiting facts c
      | Contradict ↦ add_waiting n manner part waiting (with_contradiction facts) c
      | Replace others ↦ add_waiting n manner part (others ++ waiting) facts c
      | Keep rule ↦ within_size (is_large rule.left || is_full facts)
          (add_waiting n manner (suc part) waiting (with_rule manner.name (suc part) rule facts) c)
    ]) ≡ Made made r
    → RewriteApplications made.rules
by_sides n manner part waiting facts made r (Made d c) go f h =
    by_treatment n manner part waiting facts c made r (treatment manner.ranks d) go f
    (treatment_application manner.ranks d) h
by_sides n manner part waiting facts made r OverLimit go f h = cc
by_sides n manner part waiting facts made r OverSize go f h = cc

add_waiting_applications : (n : ℕ) (manner : Manner) → AddsApplications (add_waiting n manner)
add_waiting_applications zero manner part waiting facts b made r f h = cc
add_waiting_applications (suc n) manner part [] facts b made r f h =
    subst (λ (k : Facts). RewriteApplications k.rules) (made_term h) f
add_waiting_applications (suc n) manner part (e ∷ waiting) facts b made r f h =
    by_sides n manner part waiting facts made r (normal_sides (serving manner facts) e b)
    (add_waiting_applications n manner) f h

-- where no fact rewrites a variable, none does behind an adding
pub add_applications : (manner : Manner) (e : Sides) (facts : Facts) (b : ℕ) (made : Facts) (r : ℕ)
    → All (λ fact. IsApplication fact.sides.left) facts.rules → add manner e facts b ≡ Made made r
    → All (λ fact. IsApplication fact.sides.left) made.rules
unfolding add
add_applications manner e facts b made r f h =
    add_waiting_applications (most_taken b) manner 0 (e ∷ []) facts b made r f
    (within_made _ (add_waiting (most_taken b) manner 0 (e ∷ []) facts b) made r h)
