-- Rows by which consequences are shown, for terms that a line speaks of.
use Rattle.std.specs.Prelude.{ℕ, refl}
use Rattle.larch_term.specs.BuiltIn.{bool_sort, built_in}
use Rattle.larch_term.specs.Tree.{Tree}
use Rattle.larch_term.specs.Truth.{truth}
use Rattle.larch_term.specs.declared.built_in.BuiltIn.TheVariants.{And, Implies, Not, Or}
use Rattle.larch_derive_lines.specs.CalculusFormula.{conjunction, disjunction, falsity, implication, negation}
use Rattle.larch_derive_lines.specs.TablesSpelling.{x, y}
use Rattle.larch_derive_lines.specs.DerivePredicates.{HasEquation}
use Rattle.larch_derive_lines.specs.DeriveBuilderBuilder.{Builder}
use Rattle.larch_derive_lines.proofs.DeriveGrowth.{known_left}
use Rattle.larch_derive_formulas.specs.Instances.{of_truths, IsKnownAt, IsInstance}
use Rattle.larch_derive_formulas.proofs.Rows.{known_one, known_two, of_row}

-- ---- what a line speaks of is known

conjuncts_known : (m : Builder) (n : ℕ) (l r w : Tree) → HasEquation m n (conjunction l r) w
    → IsKnownAt m bool_sort l × IsKnownAt m bool_sort r
conjuncts_known m n l r w e =
    known_two m (built_in And bool_sort) bool_sort bool_sort l r refl (known_left m n (conjunction l r) w e)

disjuncts_known : (m : Builder) (n : ℕ) (l r w : Tree) → HasEquation m n (disjunction l r) w
    → IsKnownAt m bool_sort l × IsKnownAt m bool_sort r
disjuncts_known m n l r w e =
    known_two m (built_in Or bool_sort) bool_sort bool_sort l r refl (known_left m n (disjunction l r) w e)

implied_known : (m : Builder) (n : ℕ) (l r w : Tree) → HasEquation m n (implication l r) w
    → IsKnownAt m bool_sort l × IsKnownAt m bool_sort r
implied_known m n l r w e =
    known_two m (built_in Implies bool_sort) bool_sort bool_sort l r refl (known_left m n (implication l r) w e)

negated_known : (m : Builder) (n : ℕ) (t w : Tree) → HasEquation m n (negation t) w → IsKnownAt m bool_sort t
negated_known m n t w e =
    known_one m (built_in Not bool_sort) bool_sort t refl (known_left m n (negation t) w e)

-- ---- of a conjunction that is true

pub left_conjunct : (m : Builder) (n : ℕ) (l r w : Tree) → HasEquation m n (conjunction l r) w
    → IsInstance m (of_truths 35 l r) (implication (conjunction l r) l) truth
left_conjunct m n l r w e =
    let k = conjuncts_known m n l r w e in
    of_row m 35 (implication (conjunction x y) x) truth l r refl k.0 k.1

pub right_conjunct : (m : Builder) (n : ℕ) (l r w : Tree) → HasEquation m n (conjunction l r) w
    → IsInstance m (of_truths 36 l r) (implication (conjunction l r) r) truth
right_conjunct m n l r w e =
    let k = conjuncts_known m n l r w e in
    of_row m 36 (implication (conjunction x y) y) truth l r refl k.0 k.1

by_truth : (m : Builder) (t : Tree) → IsKnownAt m bool_sort t → IsInstance m (of_truths 14 t t) (implication truth t) t
by_truth m t k = of_row m 14 (implication truth x) x t t refl k k

pub left_by_truth : (m : Builder) (n : ℕ) (l r w : Tree) → HasEquation m n (conjunction l r) w
    → IsInstance m (of_truths 14 l l) (implication truth l) l
left_by_truth m n l r w e = by_truth m l (conjuncts_known m n l r w e).0

pub right_by_truth : (m : Builder) (n : ℕ) (l r w : Tree) → HasEquation m n (conjunction l r) w
    → IsInstance m (of_truths 14 r r) (implication truth r) r
right_by_truth m n l r w e = by_truth m r (conjuncts_known m n l r w e).1

-- ---- of a disjunction that is false

pub left_disjunct : (m : Builder) (n : ℕ) (l r w : Tree) → HasEquation m n (disjunction l r) w
    → IsInstance m (of_truths 37 l r) (implication l (disjunction l r)) truth
left_disjunct m n l r w e =
    let k = disjuncts_known m n l r w e in
    of_row m 37 (implication x (disjunction x y)) truth l r refl k.0 k.1

pub right_disjunct : (m : Builder) (n : ℕ) (l r w : Tree) → HasEquation m n (disjunction l r) w
    → IsInstance m (of_truths 38 l r) (implication r (disjunction l r)) truth
right_disjunct m n l r w e =
    let k = disjuncts_known m n l r w e in
    of_row m 38 (implication y (disjunction x y)) truth l r refl k.0 k.1

to_falsity : (m : Builder) (t : Tree) → IsKnownAt m bool_sort t
    → IsInstance m (of_truths 17 t t) (implication t falsity) (negation t)
to_falsity m t k = of_row m 17 (implication x falsity) (negation x) t t refl k k

pub left_to_falsity : (m : Builder) (n : ℕ) (l r w : Tree) → HasEquation m n (disjunction l r) w
    → IsInstance m (of_truths 17 l l) (implication l falsity) (negation l)
left_to_falsity m n l r w e = to_falsity m l (disjuncts_known m n l r w e).0

pub right_to_falsity : (m : Builder) (n : ℕ) (l r w : Tree) → HasEquation m n (disjunction l r) w
    → IsInstance m (of_truths 17 r r) (implication r falsity) (negation r)
right_to_falsity m n l r w e = to_falsity m r (disjuncts_known m n l r w e).1

-- ---- of an implication that is false

pub or_premise : (m : Builder) (n : ℕ) (l r w : Tree) → HasEquation m n (implication l r) w
    → IsInstance m (of_truths 39 l r) (disjunction (implication l r) l) truth
or_premise m n l r w e =
    let k = implied_known m n l r w e in
    of_row m 39 (disjunction (implication x y) x) truth l r refl k.0 k.1

pub premise_alone : (m : Builder) (n : ℕ) (l r w : Tree) → HasEquation m n (implication l r) w
    → IsInstance m (of_truths 11 l l) (disjunction falsity l) l
premise_alone m n l r w e =
    let k = implied_known m n l r w e in
    of_row m 11 (disjunction falsity x) x l l refl k.0 k.0

pub by_conclusion : (m : Builder) (n : ℕ) (l r w : Tree) → HasEquation m n (implication l r) w
    → IsInstance m (of_truths 40 l r) (implication r (implication l r)) truth
by_conclusion m n l r w e =
    let k = implied_known m n l r w e in
    of_row m 40 (implication y (implication x y)) truth l r refl k.0 k.1

pub conclusion_to_falsity : (m : Builder) (n : ℕ) (l r w : Tree) → HasEquation m n (implication l r) w
    → IsInstance m (of_truths 17 r r) (implication r falsity) (negation r)
conclusion_to_falsity m n l r w e = to_falsity m r (implied_known m n l r w e).1

-- ---- of a negation

pub not_not : (m : Builder) (n : ℕ) (t w : Tree) → HasEquation m n (negation t) w
    → IsInstance m (of_truths 3 t t) (negation (negation t)) t
not_not m n t w e =
    let k = negated_known m n t w e in
    of_row m 3 (negation (negation x)) x t t refl k k

pub not_true : (m : Builder) (n : ℕ) (t w : Tree) → HasEquation m n (negation t) w
    → IsInstance m (of_truths 1 t t) (negation truth) falsity
not_true m n t w e =
    let k = negated_known m n t w e in
    of_row m 1 (negation truth) falsity t t refl k k

pub not_false : (m : Builder) (n : ℕ) (t w : Tree) → HasEquation m n (negation t) w
    → IsInstance m (of_truths 2 t t) (negation falsity) truth
not_false m n t w e =
    let k = negated_known m n t w e in
    of_row m 2 (negation falsity) truth t t refl k k
