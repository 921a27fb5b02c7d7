-- Formulas of equations.
use Rattle.std.specs.Prelude.{◌≡◌, ℕ, Bool, true, false, cond, List, bytes_eq, refl}
use Rattle.std.proofs.Common.{ap, sym, subst, ◌∙◌}
use Rattle.std.proofs.lemmas.Slice.Eq.{bytes_eq-Decides}
use Rattle.larch_term.specs.BuiltIn.{bool_sort, built_in}
use Rattle.larch_term.specs.Sorts.{sort_of}
use Rattle.larch_term.specs.Tree.{Tree}
use Rattle.larch_term.specs.Truth.{truth, is_truth}
use Rattle.larch_term.specs.declared.built_in.BuiltIn.TheVariants.{Iff, Equal}
use Rattle.larch_term.proofs.TruthTest.{is_truth_Decides}
use Rattle.larch_derive_lines.specs.CalculusFormula.{choice, equality, equivalence, falsity, formula, apply_two}
use Rattle.larch_derive_lines.specs.DerivePredicates.{Known, HasEquation}
use Rattle.larch_derive_lines.specs.DeriveBuilderBuilder.{Builder}
use Rattle.larch_derive_lines.proofs.DeriveGrowth.{known_left}
use Rattle.larch_derive_formulas.specs.Formulas.{equation_formula, equating}
use Rattle.larch_derive_formulas.specs.Instances.{of_truths, of_values, IsInstance}
use Rattle.larch_derive_formulas.specs.declared.instances.Instance.{Instance}
use Rattle.larch_derive_formulas.proofs.Rows.{choice_by_false, choice_by_true, equality_of_truth_values}
use Rattle.larch_derive_formulas.proofs.Rows.{equal_to_itself, equivalent_to_itself, instance_as, known_two}

-- ---- which formula an equation has

of_right : (l r : Tree) → is_truth r ≡ true → formula l r ≡ l
of_right l r h =
    ap
    (λ c. cond c l (cond (is_truth l) r
    (cond (bytes_eq (sort_of l) bool_sort) (equivalence l r) (equality (sort_of l) l r)))) h

of_left : (l r : Tree) → is_truth r ≡ false → is_truth l ≡ true → formula l r ≡ r
of_left l r h k =
    ap
    (λ c. cond c l (cond (is_truth l) r
    (cond (bytes_eq (sort_of l) bool_sort) (equivalence l r) (equality (sort_of l) l r)))) h
    ∙ ap (λ c. cond c r (cond (bytes_eq (sort_of l) bool_sort) (equivalence l r) (equality (sort_of l) l r))) k

of_both : (l r : Tree) → is_truth r ≡ false → is_truth l ≡ false → formula l r ≡ equation_formula l r
of_both l r h k =
    ap
    (λ c. cond c l (cond (is_truth l) r
    (cond (bytes_eq (sort_of l) bool_sort) (equivalence l r) (equality (sort_of l) l r)))) h
    ∙ ap (λ c. cond c r (cond (bytes_eq (sort_of l) bool_sort) (equivalence l r) (equality (sort_of l) l r))) k

by_sort : (b : Bool) (s : List ℕ) (l r : Tree)
    → apply_two (cond b (built_in Iff bool_sort) (built_in Equal s)) l r ≡ cond b (equivalence l r) (equality s l r)
by_sort true s l r = refl
by_sort false s l r = refl

pub equating_is : (l r : Tree) → apply_two (equating l) l r ≡ equation_formula l r
equating_is l r = by_sort (bytes_eq (sort_of l) bool_sort) (sort_of l) l r

pub equating_truths : (l : Tree) → bytes_eq (sort_of l) bool_sort ≡ true → equating l ≡ built_in Iff bool_sort
equating_truths l h = ap (λ c. cond c (built_in Iff bool_sort) (built_in Equal (sort_of l))) h

pub equating_others : (l : Tree) → bytes_eq (sort_of l) bool_sort ≡ false → equating l ≡ built_in Equal (sort_of l)
equating_others l h = ap (λ c. cond c (built_in Iff bool_sort) (built_in Equal (sort_of l))) h

-- ---- from an equation to its formula

pub formula_of_right : (m : Builder) (n : ℕ) (l r : Tree) → is_truth r ≡ true → HasEquation m n l r
    → HasEquation m n (formula l r) truth
formula_of_right m n l r h e =
    subst (λ t. HasEquation m n t truth) (sym (of_right l r h)) (subst (HasEquation m n l) ((is_truth_Decides r).0 h) e)

pub formula_of_left : (m : Builder) (n : ℕ) (l r : Tree) → is_truth r ≡ false → is_truth l ≡ true → HasEquation m n r l
    → HasEquation m n (formula l r) truth
formula_of_left m n l r h k e =
    subst (λ t. HasEquation m n t truth) (sym (of_left l r h k))
    (subst (HasEquation m n r) ((is_truth_Decides l).0 k) e)

pub formula_of_both : (m : Builder) (n : ℕ) (l r : Tree) → is_truth r ≡ false → is_truth l ≡ false
    → HasEquation m n (equation_formula l r) truth → HasEquation m n (formula l r) truth
formula_of_both m n l r h k e = subst (λ t. HasEquation m n t truth) (sym (of_both l r h k)) e

pub equated_by : (m : Builder) (n : ℕ) (l r : Tree) → HasEquation m n (apply_two (equating l) l r) truth
    → HasEquation m n (equation_formula l r) truth
equated_by m n l r e = subst (λ t. HasEquation m n t truth) (equating_is l r) e

-- ---- and back

pub right_from_formula : (m : Builder) (n : ℕ) (l r : Tree) → is_truth r ≡ true → HasEquation m n (formula l r) truth
    → HasEquation m n l r
right_from_formula m n l r h e =
    subst (HasEquation m n l) (sym ((is_truth_Decides r).0 h)) (subst (λ t. HasEquation m n t truth) (of_right l r h) e)

pub left_from_formula : (m : Builder) (n : ℕ) (l r : Tree) → is_truth r ≡ false → is_truth l ≡ true
    → HasEquation m n truth (formula l r) → HasEquation m n l r
left_from_formula m n l r h k e =
    subst (λ t. HasEquation m n t r) (sym ((is_truth_Decides l).0 k))
    (subst (HasEquation m n truth) (of_left l r h k) e)

pub both_from_formula : (m : Builder) (n : ℕ) (l r : Tree) → is_truth r ≡ false → is_truth l ≡ false
    → HasEquation m n (formula l r) truth → HasEquation m n (apply_two (equating l) l r) truth
both_from_formula m n l r h k e =
    subst (λ t. HasEquation m n t truth) (of_both l r h k ∙ sym (equating_is l r)) e

-- ---- the row by which a term is equal to itself

pub itself_equivalent : (m : Builder) (i : Instance) (t : Tree) → bytes_eq (sort_of t) bool_sort ≡ true
    → i ≡ of_truths 23 t t → Known m t → IsInstance m i (apply_two (equating t) t t) truth
itself_equivalent m i t h e k =
    subst (λ j. IsInstance m j (apply_two (equating t) t t) truth) (sym e)
    (subst (λ f. IsInstance m (of_truths 23 t t) (apply_two f t t) truth) (sym (equating_truths t h))
    (equivalent_to_itself m t (k, (bytes_eq-Decides (sort_of t) bool_sort).0 h)))

pub itself_equal : (m : Builder) (i : Instance) (t : Tree) → bytes_eq (sort_of t) bool_sort ≡ false
    → i ≡ of_values 24 (sort_of t) t t → Known m t → IsInstance m i (apply_two (equating t) t t) truth
itself_equal m i t h e k =
    subst (λ j. IsInstance m j (apply_two (equating t) t t) truth) (sym e)
    (subst (λ f. IsInstance m (of_values 24 (sort_of t) t t) (apply_two f t t) truth) (sym (equating_others t h))
    (equal_to_itself m (sort_of t) t (k, refl)))

-- ---- what is left of a known equivalence

pub from_equivalence : (m : Builder) (i : Instance) (n : ℕ) (l r : Tree) → i ≡ of_truths 25 l r
    → HasEquation m n (equivalence l r) truth → IsInstance m i (equality bool_sort l r) (equivalence l r)
from_equivalence m i n l r e h =
    let k =
    known_two m (built_in Iff bool_sort) bool_sort bool_sort l r refl (known_left m n (equivalence l r) truth h) in
    instance_as m i (of_truths 25 l r) (equality bool_sort l r) (equivalence l r) e
    (equality_of_truth_values m l r k.0 k.1)

pub equivalent : (m : Builder) (n : ℕ) (l r : Tree) → bytes_eq (sort_of l) bool_sort ≡ true
    → HasEquation m n (apply_two (equating l) l r) truth → HasEquation m n (equivalence l r) truth
equivalent m n l r h e = subst (λ f. HasEquation m n (apply_two f l r) truth) (equating_truths l h) e

pub equal : (m : Builder) (n : ℕ) (l r : Tree) → bytes_eq (sort_of l) bool_sort ≡ false
    → HasEquation m n (apply_two (equating l) l r) truth → HasEquation m n (equality (sort_of l) l r) truth
equal m n l r h e = subst (λ f. HasEquation m n (apply_two f l r) truth) (equating_others l h) e

-- ---- what follows from an absurdity

pub first_choice : (m : Builder) (i : Instance) (z : List ℕ) (l r : Tree) → z ≡ sort_of l → i ≡ of_values 27 z l r
    → Known m l → Known m r → sort_of l ≡ sort_of r → IsInstance m i (choice (sort_of l) truth l r) l
first_choice m i z l r d e p q s =
    instance_as m i (of_values 27 (sort_of l) l r) (choice (sort_of l) truth l r) l
    (e ∙ ap (λ y. of_values 27 y l r) d)
    (choice_by_true m (sort_of l) l r (p, refl) (q, sym s))

pub second_choice : (m : Builder) (i : Instance) (z : List ℕ) (l r : Tree) → z ≡ sort_of l → i ≡ of_values 28 z l r
    → Known m l → Known m r → sort_of l ≡ sort_of r → IsInstance m i (choice (sort_of l) falsity l r) r
second_choice m i z l r d e p q s =
    instance_as m i (of_values 28 (sort_of l) l r) (choice (sort_of l) falsity l r) r
    (e ∙ ap (λ y. of_values 28 y l r) d)
    (choice_by_false m (sort_of l) l r (p, refl) (q, sym s))
