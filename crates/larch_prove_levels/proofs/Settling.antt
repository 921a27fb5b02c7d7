-- Whether a level is proved.
use Rattle.std.specs.Prelude.{◌≡◌, ◌<◌, ◌||◌, Bool, true, false, refl, ℕ, List, Some}
use Rattle.std.proofs.Common.{ap, arith, subst, sym, ◌∙◌}
use Rattle.larch_prove_boxes.specs.CalculusFormula.{falsity}
use Rattle.larch_prove_boxes.proofs.DeriveGrowth.{known_left}
use Rattle.larch_prove_boxes.specs.DerivePredicates.{HasEquation, Known}
use Rattle.larch_prove_boxes.specs.DeriveBuilderBuilder.{Builder}
use Rattle.larch_prove_adding.specs.KeptFacts.{SaysAbsurd}
use Rattle.larch_prove_levels.specs.Level.{IsReady, IsStored}
use Rattle.larch_prove_levels.specs.Settled.{is_settled_by}
use Rattle.larch_prove_levels.specs.declared.level.Level.{Level}
use Rattle.larch_prove_boxes.specs.ProveMeaningFacts.{Facts}
use Rattle.larch_store.specs.Numbered.{Numbered, term_of}
use Rattle.larch_term.proofs.Decided.{tree_Decides}
use Rattle.larch_term.proofs.TruthTest.{is_truth_Decides}
use Rattle.larch_term.specs.Equality.{same_tree}
use Rattle.larch_term.specs.Sorts.{sort_of}
use Rattle.larch_term.specs.Tree.{Tree, app, more, nodes, none, var}
use Rattle.larch_term.specs.Truth.{is_truth, truth}

both_ways : (a b : Bool) → (a ≡ true → b ≡ true) → (b ≡ true → a ≡ true) → a ≡ b
both_ways true true f g = refl
both_ways true false f g = sym (f refl)
both_ways false true f g = g refl
both_ways false false f g = refl

same_as_truth : (t : Tree) → same_tree t truth ≡ is_truth t
same_as_truth t =
    both_ways (same_tree t truth) (is_truth t) (λ e. (is_truth_Decides t).1 ((tree_Decides t truth).0 e))
    (λ e. (tree_Decides t truth).1 ((is_truth_Decides t).0 e))

or_true : (a : Bool) → (a || true) ≡ true
or_true true = refl
or_true false = refl

-- its goal is true
pub settled_true : (facts : Facts) (goal : Tree) → is_truth goal ≡ true → is_settled_by facts goal ≡ true
settled_true facts goal h = ap (λ q. q || facts.contradictory) (same_as_truth goal ∙ h)

-- or its facts contradict each other
pub settled_absurd : (facts : Facts) (goal : Tree) → facts.contradictory ≡ true → is_settled_by facts goal ≡ true
settled_absurd facts goal h = ap (λ q. same_tree goal truth || q) h ∙ or_true (same_tree goal truth)

-- or it isn't
pub settled_open : (facts : Facts) (goal : Tree) → is_truth goal ≡ false → facts.contradictory ≡ false
    → is_settled_by facts goal ≡ false
settled_open facts goal h k = ap (λ q. q || facts.contradictory) (same_as_truth goal ∙ h) ∙ k

-- no term of several nodes is true
pub large_untrue : (t : Tree) → 1 < nodes t → false ≡ is_truth t
large_untrue (var n s) l = refl
large_untrue (app f none) l = absurd (omega (arith, l))
large_untrue (app f (more t ts)) l = refl

-- where a line says that true is false, a formula and true can be written, and have one sort
pub record MayShow (b : Builder) (t u : Tree) (line : ℕ) : Type 0 where
  pub left : Known b t
  pub right : Known b u
  pub sorts : sort_of t ≡ sort_of u
  pub says : HasEquation b line truth falsity

pub may_show : (b : Builder) (level : Level) (store : List Numbered) (t u : Tree) (line : ℕ) → IsReady store b level
    → IsStored store level → level.facts.absurd ≡ Some line → t ≡ term_of level.first → u ≡ truth → MayShow b t u line
may_show b level store t u line ready stored e d k =
    let says : HasEquation b line truth falsity = subst (SaysAbsurd b) e ready.said.1 in
    record {
      left = subst (Known b) (sym d) (known_left _ _ _ _ ready.way);
      right = subst (Known b) (sym k) (known_left _ _ _ _ says);
      sorts = ap sort_of d ∙ stored.formula ∙ sym (ap sort_of k);
      says = says;
    }

-- what is said of equal terms is said
pub said_of_same : (b : Builder) (n : ℕ) (t u l r : Tree) → t ≡ l → u ≡ r → HasEquation b n t u → HasEquation b n l r
said_of_same b n t u l r e d h = subst (λ x. HasEquation b n l x) d (subst (λ x. HasEquation b n x u) e h)
