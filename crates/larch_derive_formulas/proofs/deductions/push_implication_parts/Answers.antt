use Rattle.std.specs.Prelude.{[], ◌∷◌, refl}
use Rattle.larch_derive_lines.specs.CalculusFormula.{falsity, implication}
use Rattle.larch_term.specs.BuiltIn.{bool_sort, built_in}
use Rattle.larch_term.specs.declared.built_in.BuiltIn.TheVariants.{Implies, Or}
use Rattle.larch_derive_lines.proofs.DeriveGrowth.{extends_trans, stays_said}
use Rattle.larch_derive_formulas.proofs.Deduced.{by_conclusion, conclusion_to_falsity, or_premise, premise_alone}
use Rattle.larch_derive_formulas.proofs.deductions.push_implication_parts.Goals as goal

pub returns-in_err-first-clause-extends : goal.returns-in_err-first-clause-extends
returns-in_err-first-clause-extends c e =
    c.in_err-first.ensures.extends (built_in Or bool_sort) [] (c.args.left.now ∷ [])
    (implication c.args.left.now c.args.right.now) falsity c.args.left.now
    (or_premise _ _ c.args.left.now c.args.right.now falsity e) refl e
    (premise_alone _ _ c.args.left.now c.args.right.now falsity e)

pub returns-in_err-second-clause-extends : goal.returns-in_err-second-clause-extends
returns-in_err-second-clause-extends c e =
    let d =
    (stays_said _ _ _ _ (c.in_ok-first.ensures.extends (built_in Or bool_sort) [] (c.args.left.now ∷ [])
    (implication c.args.left.now c.args.right.now) falsity c.args.left.now
    (or_premise _ _ c.args.left.now c.args.right.now falsity e) refl e
    (premise_alone _ _ c.args.left.now c.args.right.now falsity e)) e) in
    extends_trans _ _ _ (c.in_ok-first.ensures.extends (built_in Or bool_sort) [] (c.args.left.now ∷ [])
    (implication c.args.left.now c.args.right.now) falsity c.args.left.now
    (or_premise _ _ c.args.left.now c.args.right.now falsity e) refl e
    (premise_alone _ _ c.args.left.now c.args.right.now falsity e))
    (c.in_err-second.ensures.extends (built_in Implies bool_sort) (c.args.right.now ∷ []) []
    (implication c.args.left.now c.args.right.now) falsity
    (by_conclusion _ _ c.args.left.now c.args.right.now falsity d) refl d
    (conclusion_to_falsity _ _ c.args.left.now c.args.right.now falsity d))

pub returns-clause-first : goal.returns-clause-first
returns-clause-first c e =
    let d =
    (stays_said _ _ _ _ (c.in_ok-first.ensures.extends (built_in Or bool_sort) [] (c.args.left.now ∷ [])
    (implication c.args.left.now c.args.right.now) falsity c.args.left.now
    (or_premise _ _ c.args.left.now c.args.right.now falsity e) refl e
    (premise_alone _ _ c.args.left.now c.args.right.now falsity e)) e) in
    stays_said _ _ _ _ (c.in_ok-second.ensures.extends (built_in Implies bool_sort) (c.args.right.now ∷ []) []
    (implication c.args.left.now c.args.right.now) falsity
    (by_conclusion _ _ c.args.left.now c.args.right.now falsity d) refl d
    (conclusion_to_falsity _ _ c.args.left.now c.args.right.now falsity d))
    (c.in_ok-first.ensures.says (built_in Or bool_sort) [] (c.args.left.now ∷ [])
    (implication c.args.left.now c.args.right.now) falsity c.args.left.now
    (or_premise _ _ c.args.left.now c.args.right.now falsity e) refl e
    (premise_alone _ _ c.args.left.now c.args.right.now falsity e))

pub returns-clause-second : goal.returns-clause-second
returns-clause-second c e =
    let d =
    (stays_said _ _ _ _ (c.in_ok-first.ensures.extends (built_in Or bool_sort) [] (c.args.left.now ∷ [])
    (implication c.args.left.now c.args.right.now) falsity c.args.left.now
    (or_premise _ _ c.args.left.now c.args.right.now falsity e) refl e
    (premise_alone _ _ c.args.left.now c.args.right.now falsity e)) e) in
    c.in_ok-second.ensures.says (built_in Implies bool_sort) (c.args.right.now ∷ []) []
    (implication c.args.left.now c.args.right.now) falsity
    (by_conclusion _ _ c.args.left.now c.args.right.now falsity d) refl d
    (conclusion_to_falsity _ _ c.args.left.now c.args.right.now falsity d)

pub returns-clause-extends : goal.returns-clause-extends
returns-clause-extends c e =
    let d =
    (stays_said _ _ _ _ (c.in_ok-first.ensures.extends (built_in Or bool_sort) [] (c.args.left.now ∷ [])
    (implication c.args.left.now c.args.right.now) falsity c.args.left.now
    (or_premise _ _ c.args.left.now c.args.right.now falsity e) refl e
    (premise_alone _ _ c.args.left.now c.args.right.now falsity e)) e) in
    extends_trans _ _ _ (c.in_ok-first.ensures.extends (built_in Or bool_sort) [] (c.args.left.now ∷ [])
    (implication c.args.left.now c.args.right.now) falsity c.args.left.now
    (or_premise _ _ c.args.left.now c.args.right.now falsity e) refl e
    (premise_alone _ _ c.args.left.now c.args.right.now falsity e))
    (c.in_ok-second.ensures.extends (built_in Implies bool_sort) (c.args.right.now ∷ []) []
    (implication c.args.left.now c.args.right.now) falsity
    (by_conclusion _ _ c.args.left.now c.args.right.now falsity d) refl d
    (conclusion_to_falsity _ _ c.args.left.now c.args.right.now falsity d))
