-- Identities hold.
use Rattle.std.proofs.Common.{◌≡◌, ◌≤◌, ◌==◌, ℕ, Bool, true, false, cond, not, ◌&&◌, ◌||◌, List, [], ◌∷◌, refl, sym}
use Rattle.std.proofs.Common.{◌∙◌, ap, subst, arith}
use Rattle.larch_base.proofs.Options.{map_cond}
use Rattle.larch_term.specs.Operator.{PlainOperator}
use Rattle.larch_term.specs.Tree.{Tree, var}
use Rattle.larch_term.specs.BuiltIn.{bool_sort}
use Rattle.larch_term.specs.declared.built_in.BuiltIn.TheVariants.{True, False, Not, And, Or, Implies, Iff, Equal}
use Rattle.larch_term.specs.declared.built_in.BuiltIn.TheVariants.{Unequal, If}
use Rattle.larch_term.specs.Truth.{truth}
use Rattle.larch_calculus.specs.Formula.{falsity, equality}
use Rattle.larch_calculus.specs.Identity.{Proposition, letter, always, never, denied, both, either, implied, equivalent}
use Rattle.larch_calculus.specs.Identity.{equal, unequal, chosen, term_of, agree, value, IsIdentity, propositional}
use Rattle.larch_calculus.specs.Identity.{equal_itself, equal_exchanged, unequal_denied, chosen_first, chosen_second}
use Rattle.larch_calculus.specs.Identity.{chosen_same}
use Rattle.larch_models_meaning.specs.Interpretation.{Interpretation, Assignment, value_of, bit, is_one, InRange}
use Rattle.larch_models_meaning.specs.Interpretation.{IsInterpretation}
use Rattle.larch_soundness.proofs.Values.{is_one_bit, bit_is_one}

-- the truth values of an assignment
abbrev pub truths : Assignment → List ℕ → Bool
truths a n = is_one (a n bool_sort)

bits_agree : (p q : Bool) → (bit p == bit q) ≡ agree p q
bits_agree true true = refl
bits_agree true false = refl
bits_agree false true = refl
bits_agree false false = refl

-- the value of a proposition's term is its truth value
proposition_value : {fs : List PlainOperator} {m : Interpretation} → IsInterpretation fs m → (a : Assignment)
    → InRange m.last a → (p : Proposition) → value_of m a (term_of p) ≡ bit (value (truths a) p)
proposition_value {m = m} i a r (letter n) =
    sym (bit_is_one (a n bool_sort) (subst (λ k. a n bool_sort ≤ k) i.two_truth_values (r n bool_sort)))
proposition_value {m = m} i a r always = i.meanings True bool_sort []
proposition_value {m = m} i a r never = i.meanings False bool_sort []
proposition_value {m = m} i a r (denied p) =
    i.meanings Not bool_sort (value_of m a (term_of p) ∷ [])
    ∙ ap (λ u. bit (not (is_one u))) (proposition_value i a r p)
    ∙ ap (λ b. bit (not b)) (is_one_bit (value (truths a) p))
proposition_value {m = m} i a r (both p q) =
    i.meanings And bool_sort (value_of m a (term_of p) ∷ value_of m a (term_of q) ∷ [])
    ∙ (λ j. bit (is_one (proposition_value i a r p j) && is_one (proposition_value i a r q j)))
    ∙ (λ j. bit (is_one_bit (value (truths a) p) j && is_one_bit (value (truths a) q) j))
proposition_value {m = m} i a r (either p q) =
    i.meanings Or bool_sort (value_of m a (term_of p) ∷ value_of m a (term_of q) ∷ [])
    ∙ (λ j. bit (is_one (proposition_value i a r p j) || is_one (proposition_value i a r q j)))
    ∙ (λ j. bit (is_one_bit (value (truths a) p) j || is_one_bit (value (truths a) q) j))
proposition_value {m = m} i a r (implied p q) =
    i.meanings Implies bool_sort (value_of m a (term_of p) ∷ value_of m a (term_of q) ∷ [])
    ∙ (λ j. bit (not (is_one (proposition_value i a r p j)) || is_one (proposition_value i a r q j)))
    ∙ (λ j. bit (not (is_one_bit (value (truths a) p) j) || is_one_bit (value (truths a) q) j))
proposition_value {m = m} i a r (equivalent p q) =
    i.meanings Iff bool_sort (value_of m a (term_of p) ∷ value_of m a (term_of q) ∷ [])
    ∙ (λ j. bit (proposition_value i a r p j == proposition_value i a r q j))
    ∙ ap bit (bits_agree (value (truths a) p) (value (truths a) q))
proposition_value {m = m} i a r (equal p q) =
    i.meanings Equal bool_sort (value_of m a (term_of p) ∷ value_of m a (term_of q) ∷ [])
    ∙ (λ j. bit (proposition_value i a r p j == proposition_value i a r q j))
    ∙ ap bit (bits_agree (value (truths a) p) (value (truths a) q))
proposition_value {m = m} i a r (unequal p q) =
    i.meanings Unequal bool_sort (value_of m a (term_of p) ∷ value_of m a (term_of q) ∷ [])
    ∙ (λ j. bit (not (proposition_value i a r p j == proposition_value i a r q j)))
    ∙ ap (λ b. bit (not b)) (bits_agree (value (truths a) p) (value (truths a) q))
proposition_value {m = m} i a r (chosen p q s) =
    i.meanings If bool_sort (value_of m a (term_of p) ∷ value_of m a (term_of q) ∷ value_of m a (term_of s) ∷ [])
    ∙ (λ j. cond (is_one (proposition_value i a r p j)) (proposition_value i a r q j) (proposition_value i a r s j))
    ∙ (λ j. cond (is_one_bit (value (truths a) p) j) (bit (value (truths a) q)) (bit (value (truths a) s)))
    ∙ sym (map_cond bit (value (truths a) p) (value (truths a) q) (value (truths a) s))

same_itself : (u : ℕ) → (u == u) ≡ true
same_itself u = grind arith

same_exchanged : (u v : ℕ) → (u == v) ≡ (v == u)
same_exchanged u v = grind arith

cond_same : (b : Bool) (u : ℕ) → cond b u u ≡ u
cond_same true u = refl
cond_same false u = refl

-- one side of an equation and the other have one value
abbrev Same : Interpretation → Assignment → Tree → Tree → Type 0
Same m a l r = value_of m a l ≡ value_of m a r

moved : (m : Interpretation) (a : Assignment) {l r c d : Tree} → l ≡ c → r ≡ d → Same m a c d → Same m a l r
moved m a p q e = ap (value_of m a) p ∙ e ∙ sym (ap (value_of m a) q)

pub identity_holds : {fs : List PlainOperator} {m : Interpretation} → IsInterpretation fs m → (a : Assignment)
    → InRange m.last a → {l r : Tree} → IsIdentity l r → value_of m a l ≡ value_of m a r
identity_holds {m = m} i a r (propositional p q e d h) =
    moved m a e d (proposition_value i a r p ∙ ap bit (h (truths a)) ∙ sym (proposition_value i a r q))
identity_holds {m = m} i a r (equal_itself s x e d) =
    moved m a e d (i.meanings Equal s (a x s ∷ a x s ∷ []) ∙ ap bit (same_itself (a x s))
    ∙ sym (i.meanings True bool_sort []))
identity_holds {m = m} i a r (equal_exchanged s x y e d) =
    moved m a e d (i.meanings Equal s (a x s ∷ a y s ∷ []) ∙ ap bit (same_exchanged (a x s) (a y s))
    ∙ sym (i.meanings Equal s (a y s ∷ a x s ∷ [])))
identity_holds {m = m} i a r (unequal_denied s x y e d) =
    moved m a e d
    (i.meanings Unequal s (a x s ∷ a y s ∷ [])
    ∙ sym (i.meanings Not bool_sort (value_of m a (equality s (var x s) (var y s)) ∷ [])
    ∙ ap (λ u. bit (not (is_one u))) (i.meanings Equal s (a x s ∷ a y s ∷ []))
    ∙ ap (λ b. bit (not b)) (is_one_bit (a x s == a y s))))
identity_holds {m = m} i a r (chosen_first s x y e d) =
    moved m a e d
    (i.meanings If s (value_of m a truth ∷ a x s ∷ a y s ∷ [])
    ∙ ap (λ u. cond (is_one u) (a x s) (a y s)) (i.meanings True bool_sort []))
identity_holds {m = m} i a r (chosen_second s x y e d) =
    moved m a e d
    (i.meanings If s (value_of m a falsity ∷ a x s ∷ a y s ∷ [])
    ∙ ap (λ u. cond (is_one u) (a x s) (a y s)) (i.meanings False bool_sort []))
identity_holds {m = m} i a r (chosen_same s b x e d) =
    moved m a e d (i.meanings If s (a b bool_sort ∷ a x s ∷ a x s ∷ []) ∙ cond_same (is_one (a b bool_sort)) (a x s))
