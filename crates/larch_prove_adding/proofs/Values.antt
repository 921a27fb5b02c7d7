-- Truth values, and what becomes of equations that have some.
use Rattle.std.specs.Prelude.{◌≡◌, ◌⊎◌, ◌↔◌, ◌&&◌, ◌||◌, Bool, true, false, cond, List, not, IsTrue, refl}
use Rattle.std.proofs.Common.{inl, inr, ap, sym, ◌∙◌}
use Rattle.larch_prove_invariant.specs.CalculusFormula.{falsity}
use Rattle.larch_prove_invariant.specs.OrderPrecedenceRanked.{Ranked}
use Rattle.larch_prove_adding.specs.Turns.{IsOpposite}
use Rattle.larch_prove_invariant.specs.ProveMeaningFacts.{Contradict, Drop, deduce}
use Rattle.larch_prove_invariant.specs.ProveMeaningFacts.{is_value, replaced_or_kept, treatment}
use Rattle.larch_prove_invariant.specs.ProveMeaningFacts.{treatment_of, truth_to_right}
use Rattle.larch_rewrite_meaning.specs.Sides.{Sides, flip}
use Rattle.larch_term.specs.Equality.{same_tree}
use Rattle.larch_term.specs.Tree.{Tree}
use Rattle.larch_term.specs.Truth.{is_truth, truth}
use Rattle.larch_term.proofs.Decided.{tree_Decides, trees_told}
use Rattle.larch_term.proofs.TruthTest.{is_truth_Decides}

pub true_false : true ≡ false → ⊥
true_false e = cc

-- ---- the test of a value

pub truth_is_value : (t : Tree) → is_truth t ≡ true → is_value t ≡ true
truth_is_value t h = ap (λ q. q || same_tree t falsity) ((tree_Decides t truth).1 ((is_truth_Decides t).0 h))

pub value_told : (t : Tree) (q : Bool) → is_truth t ≡ false → (IsTrue q ↔ (t ≡ falsity)) → q ≡ is_value t
value_told t q h k = by_test (same_tree t truth) refl
  where
    by_test : (p : Bool) → same_tree t truth ≡ p → q ≡ (p || same_tree t falsity)
    by_test true e = absurd (true_false (sym ((is_truth_Decides t).1 ((tree_Decides t truth).0 e)) ∙ h))
    by_test false e = trees_told t falsity q k

-- a value is true or false
value_is : (t : Tree) → is_value t ≡ true → (t ≡ truth) ⊎ (t ≡ falsity)
value_is t h = by_test (same_tree t truth) refl h
  where
    by_test : (p : Bool) → same_tree t truth ≡ p → (p || same_tree t falsity) ≡ true → (t ≡ truth) ⊎ (t ≡ falsity)
    by_test true e k = inl ((tree_Decides t truth).0 e)
    by_test false e k = inr ((tree_Decides t falsity).0 k)

-- ---- the side on which a value stands

pub turned : (e : Sides) → is_value e.left ≡ true → is_value e.right ≡ false → truth_to_right e ≡ flip e
turned e p q =
    ap (λ v. cond (v && not (is_value e.right)) (flip e) e) p ∙ ap (λ v. cond (not v) (flip e) e) q

pub not_turned : (e : Sides) → is_value e.left ≡ false → truth_to_right e ≡ e
not_turned e p = ap (λ v. cond (v && not (is_value e.right)) (flip e) e) p

pub both_values : (e : Sides) → is_value e.left ≡ true → is_value e.right ≡ true → truth_to_right e ≡ e
both_values e p q =
    ap (λ v. cond (v && not (is_value e.right)) (flip e) e) p ∙ ap (λ v. cond (not v) (flip e) e) q

different : (e : Sides) → (e.left ≡ e.right → ⊥) → (e.left ≡ truth) ⊎ (e.left ≡ falsity)
    → (e.right ≡ truth) ⊎ (e.right ≡ falsity) → IsOpposite e
different e n (inl p) (inl q) = absurd (n (p ∙ sym q))
different e n (inl p) (inr q) = inl (p, q)
different e n (inr p) (inl q) = inr (p, q)
different e n (inr p) (inr q) = absurd (n (p ∙ sym q))

-- where a value is on the left still, the sides are true and false
pub opposite : (e : Sides) → (e.left ≡ e.right → ⊥) → is_value (truth_to_right e).left ≡ true
    → IsOpposite (truth_to_right e)
opposite e n h = by_tests (is_value e.left) (is_value e.right) refl refl h
  where
    by_tests : (p q : Bool) → is_value e.left ≡ p → is_value e.right ≡ q
        → (let d : Sides = cond (p && not q) (flip e) e in is_value d.left ≡ true)
        → (let d : Sides = cond (p && not q) (flip e) e in IsOpposite d)
    by_tests true true k l m = different e n (value_is e.left k) (value_is e.right l)
    by_tests true false k l m = absurd (true_false (sym m ∙ l))
    by_tests false true k l m = absurd (true_false (sym m ∙ k))
    by_tests false false k l m = absurd (true_false (sym m ∙ k))

-- ---- treatments

pub same_dropped : (ranks : List Ranked) (e : Sides) → e.left ≡ e.right → treatment ranks e ≡ Drop
same_dropped ranks e h =
    ap (λ q. elim q [ true ↦ Drop | false ↦ treatment_of ranks (truth_to_right e) ]) ((tree_Decides e.left e.right).1 h)

different_treated : (ranks : List Ranked) (e : Sides) → (e.left ≡ e.right → ⊥)
    → treatment ranks e ≡ treatment_of ranks (truth_to_right e)
different_treated ranks e n = by_test (same_tree e.left e.right) refl
  where
    by_test : (q : Bool) → same_tree e.left e.right ≡ q
        → elim q [ true ↦ Drop | false ↦ treatment_of ranks (truth_to_right e) ] ≡ treatment_of ranks (truth_to_right e)
    by_test true k = absurd (n ((tree_Decides e.left e.right).0 k))
    by_test false k = refl

pub value_contradicts : (ranks : List Ranked) (e d : Sides) → (e.left ≡ e.right → ⊥) → d ≡ truth_to_right e
    → is_value d.left ≡ true → treatment ranks e ≡ Contradict
value_contradicts ranks e d n p v =
    different_treated ranks e n ∙ ap (treatment_of ranks) (sym p)
    ∙ ap (λ q. elim q [ true ↦ Contradict | false ↦ replaced_or_kept ranks d (deduce d) ]) v

pub others_treated : (ranks : List Ranked) (e d : Sides) → (e.left ≡ e.right → ⊥) → d ≡ truth_to_right e
    → is_value d.left ≡ false → treatment ranks e ≡ replaced_or_kept ranks d (deduce d)
others_treated ranks e d n p v =
    different_treated ranks e n ∙ ap (treatment_of ranks) (sym p)
    ∙ ap (λ q. elim q [ true ↦ Contradict | false ↦ replaced_or_kept ranks d (deduce d) ]) v
