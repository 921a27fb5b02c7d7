use Rattle.std.specs.Prelude.{[], ◌∷◌, refl}
use Rattle.larch_derive_lines.specs.CalculusFormula.{conjunction}
use Rattle.larch_term.specs.BuiltIn.{bool_sort, built_in}
use Rattle.larch_term.specs.Truth.{truth}
use Rattle.larch_term.specs.declared.built_in.BuiltIn.TheVariants.{Implies}
use Rattle.larch_derive_lines.proofs.DeriveGrowth.{extends_trans, stays_said}
use Rattle.larch_derive_formulas.proofs.Deduced.{left_by_truth, left_conjunct, right_by_truth, right_conjunct}
use Rattle.larch_derive_formulas.proofs.deductions.push_conjuncts.Goals as goal

pub returns-in_err-first-clause-extends : goal.returns-in_err-first-clause-extends
returns-in_err-first-clause-extends c e =
    c.in_err-first.ensures.extends (built_in Implies bool_sort) [] (c.args.left.now ∷ [])
    (conjunction c.args.left.now c.args.right.now) truth c.args.left.now
    (left_conjunct _ _ c.args.left.now c.args.right.now truth e) refl e
    (left_by_truth _ _ c.args.left.now c.args.right.now truth e)

pub returns-in_err-second-clause-extends : goal.returns-in_err-second-clause-extends
returns-in_err-second-clause-extends c e =
    let d =
    (stays_said _ _ _ _ (c.in_ok-first.ensures.extends (built_in Implies bool_sort) [] (c.args.left.now ∷ [])
    (conjunction c.args.left.now c.args.right.now) truth c.args.left.now
    (left_conjunct _ _ c.args.left.now c.args.right.now truth e) refl e
    (left_by_truth _ _ c.args.left.now c.args.right.now truth e)) e) in
    extends_trans _ _ _ (c.in_ok-first.ensures.extends (built_in Implies bool_sort) [] (c.args.left.now ∷ [])
    (conjunction c.args.left.now c.args.right.now) truth c.args.left.now
    (left_conjunct _ _ c.args.left.now c.args.right.now truth e) refl e
    (left_by_truth _ _ c.args.left.now c.args.right.now truth e))
    (c.in_err-second.ensures.extends (built_in Implies bool_sort) [] (c.args.right.now ∷ [])
    (conjunction c.args.left.now c.args.right.now) truth c.args.right.now
    (right_conjunct _ _ c.args.left.now c.args.right.now truth d) refl d
    (right_by_truth _ _ c.args.left.now c.args.right.now truth d))

pub returns-clause-first : goal.returns-clause-first
returns-clause-first c e =
    let d =
    (stays_said _ _ _ _ (c.in_ok-first.ensures.extends (built_in Implies bool_sort) [] (c.args.left.now ∷ [])
    (conjunction c.args.left.now c.args.right.now) truth c.args.left.now
    (left_conjunct _ _ c.args.left.now c.args.right.now truth e) refl e
    (left_by_truth _ _ c.args.left.now c.args.right.now truth e)) e) in
    stays_said _ _ _ _ (c.in_ok-second.ensures.extends (built_in Implies bool_sort) [] (c.args.right.now ∷ [])
    (conjunction c.args.left.now c.args.right.now) truth c.args.right.now
    (right_conjunct _ _ c.args.left.now c.args.right.now truth d) refl d
    (right_by_truth _ _ c.args.left.now c.args.right.now truth d))
    (c.in_ok-first.ensures.says (built_in Implies bool_sort) [] (c.args.left.now ∷ [])
    (conjunction c.args.left.now c.args.right.now) truth c.args.left.now
    (left_conjunct _ _ c.args.left.now c.args.right.now truth e) refl e
    (left_by_truth _ _ c.args.left.now c.args.right.now truth e))

pub returns-clause-second : goal.returns-clause-second
returns-clause-second c e =
    let d =
    (stays_said _ _ _ _ (c.in_ok-first.ensures.extends (built_in Implies bool_sort) [] (c.args.left.now ∷ [])
    (conjunction c.args.left.now c.args.right.now) truth c.args.left.now
    (left_conjunct _ _ c.args.left.now c.args.right.now truth e) refl e
    (left_by_truth _ _ c.args.left.now c.args.right.now truth e)) e) in
    c.in_ok-second.ensures.says (built_in Implies bool_sort) [] (c.args.right.now ∷ [])
    (conjunction c.args.left.now c.args.right.now) truth c.args.right.now
    (right_conjunct _ _ c.args.left.now c.args.right.now truth d) refl d
    (right_by_truth _ _ c.args.left.now c.args.right.now truth d)

pub returns-clause-extends : goal.returns-clause-extends
returns-clause-extends c e =
    let d =
    (stays_said _ _ _ _ (c.in_ok-first.ensures.extends (built_in Implies bool_sort) [] (c.args.left.now ∷ [])
    (conjunction c.args.left.now c.args.right.now) truth c.args.left.now
    (left_conjunct _ _ c.args.left.now c.args.right.now truth e) refl e
    (left_by_truth _ _ c.args.left.now c.args.right.now truth e)) e) in
    extends_trans _ _ _ (c.in_ok-first.ensures.extends (built_in Implies bool_sort) [] (c.args.left.now ∷ [])
    (conjunction c.args.left.now c.args.right.now) truth c.args.left.now
    (left_conjunct _ _ c.args.left.now c.args.right.now truth e) refl e
    (left_by_truth _ _ c.args.left.now c.args.right.now truth e))
    (c.in_ok-second.ensures.extends (built_in Implies bool_sort) [] (c.args.right.now ∷ [])
    (conjunction c.args.left.now c.args.right.now) truth c.args.right.now
    (right_conjunct _ _ c.args.left.now c.args.right.now truth d) refl d
    (right_by_truth _ _ c.args.left.now c.args.right.now truth d))
