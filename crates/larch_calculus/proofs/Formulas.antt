-- An equation and its formula are derivable from each other.
use Rattle.std.proofs.Common.{◌≡◌, Bool, true, false, cond, [], ◌∷◌, codes, bytes_eq, refl, sym, subst}
use Rattle.std.proofs.lemmas.Slice.Eq.{bytes_eq-Decides}
use Rattle.larch_term.specs.BuiltIn.{built_in, bool_sort}
use Rattle.larch_term.specs.Tree.{Tree}
use Rattle.larch_term.specs.Sorts.{sort_of, IsTermOver}
use Rattle.larch_term.specs.Truth.{is_truth, truth}
use Rattle.larch_term.specs.declared.built_in.BuiltIn.TheVariants.{Iff}
use Rattle.larch_term.specs.declared.statement.Statement.TheVariants.{Equation}
use Rattle.larch_term.specs.declared.statement.Theory.{Theory}
use Rattle.larch_calculus.specs.Formula.{equivalence, equality, formula}
use Rattle.larch_calculus.specs.Identity.{always, equivalent, equal, propositional, equal_itself, agree_itself}
use Rattle.larch_calculus.specs.Letters.{two, x_letter, y_letter}
use Rattle.larch_calculus.specs.Derivable as rule
use Rattle.larch_calculus.specs.Derivable.{Derivable, identity, symmetric, instance}
use Rattle.larch_term.proofs.TruthTest.{is_truth_Decides}
use Rattle.larch_calculus.proofs.DerivedRules.{transitive, replaced_left, identity_instance, image_x, two_fit, two_over}
use Rattle.larch_calculus.proofs.Sorted.{sides_over}
use Rattle.larch_calculus.proofs.WellSorted.{well_sorted}

-- (a = a) == true
equals_itself : {t : Theory} (a : Tree) → IsTermOver t.operators a
    → Derivable t (Equation (equality (sort_of a) a a) truth)
equals_itself {t} a w =
    let s = sort_of a in
    instance (two s a a) (two_fit s a a w.0 refl w.0 refl) (two_over t.operators s a a w.1 w.1)
    (identity (equal_itself s (codes "x") refl refl))
    (λ i. equality s (sym (image_x s a a) i) (sym (image_x s a a) i)) refl

-- (a <=> a) == true
equivalent_itself : {t : Theory} (a : Tree) → IsTermOver t.operators a → sort_of a ≡ bool_sort
    → Derivable t (Equation (equivalence a a) truth)
equivalent_itself {t} a w e =
    identity_instance bool_sort a a (w, e) (w, e)
    (propositional (equivalent x_letter x_letter) always refl refl (λ given. agree_itself (given (codes "x"))))

-- (a = b) == (a <=> b)
equal_is_equivalent : {t : Theory} (a b : Tree) → IsTermOver t.operators a → sort_of a ≡ bool_sort
    → IsTermOver t.operators b → sort_of b ≡ bool_sort
    → Derivable t (Equation (equality bool_sort a b) (equivalence a b))
equal_is_equivalent {t} a b wa ea wb eb =
    identity_instance bool_sort a b (wa, ea) (wb, eb)
    (propositional (equal x_letter y_letter) (equivalent x_letter y_letter) refl refl (λ given. refl))

-- the four cases of a formula, each with what is known in it
formula_is : (P : Tree → Type 0) (a b : Tree) → (b ≡ truth → P a) → (a ≡ truth → P b)
    → (sort_of a ≡ bool_sort → P (equivalence a b)) → P (equality (sort_of a) a b) → P (formula a b)
formula_is P a b right left over_bool other =
    one P a b (equivalence a b) (equality (sort_of a) a b) (is_truth b) (is_truth a) (bytes_eq (sort_of a) bool_sort)
    (λ e. right ((is_truth_Decides b).0 e)) (λ e. left ((is_truth_Decides a).0 e))
    (λ e. over_bool ((bytes_eq-Decides (sort_of a) bool_sort).0 e)) other
  where
    one : (P : Tree → Type 0) (a b c d : Tree) (p q r : Bool) → (p ≡ true → P a) → (q ≡ true → P b) → (r ≡ true → P c)
        → P d → P (cond p a (cond q b (cond r c d)))
    one P a b c d true q r f g h x = f refl
    one P a b c d false true r f g h x = g refl
    one P a b c d false false true f g h x = h refl
    one P a b c d false false false f g h x = x

pub formula_follows : {t : Theory} (a b : Tree) → Derivable t (Equation a b)
    → Derivable t (Equation (formula a b) truth)
formula_follows {t} a b d =
    let w = well_sorted d in
    formula_is (λ f. Derivable t (Equation f truth)) a b
    (λ e. subst (λ z. Derivable t (Equation a z)) e d)
    (λ e. symmetric (subst (λ z. Derivable t (Equation z b)) e d))
    (λ e. replaced_left (2 ∷ []) refl (equivalent_itself a w.0 e) d)
    (replaced_left (2 ∷ []) refl (equals_itself a w.0) d)

pub equation_follows : {t : Theory} (a b : Tree) → Derivable t (Equation (formula a b) truth)
    → Derivable t (Equation a b)
equation_follows {t} a b =
    formula_is (λ f. Derivable t (Equation f truth) → Derivable t (Equation a b)) a b
    (λ e d. subst (λ z. Derivable t (Equation a z)) (sym e) d)
    (λ e d. subst (λ z. Derivable t (Equation z b)) (sym e) (symmetric d))
    (λ e d.
    let sides = sides_over t.operators (built_in Iff bool_sort) bool_sort bool_sort a b refl (well_sorted d).0 in
    rule.equal bool_sort (transitive (equal_is_equivalent a b sides.0.0 sides.0.1 sides.1.0 sides.1.1) d))
    (λ d. rule.equal (sort_of a) d)
