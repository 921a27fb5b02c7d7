use Rattle.std.specs.Prelude.{◌∷◌, [], refl}
use Rattle.larch_derive_lines.proofs.DeriveGrowth.{extends_same, extends_trans, known_left}
use Rattle.larch_term.specs.Truth.{truth}
use Rattle.larch_derive_lines.specs.CalculusFormula.{apply_two}
use Rattle.larch_derive_formulas.specs.Formulas.{equating}
use Rattle.larch_derive_formulas.proofs.Truths.{equated_by}
use Rattle.larch_derive_formulas.proofs.formulas.push_equality.Goals as goal

pub returns-in_err-changed-clause-extends : goal.returns-in_err-changed-clause-extends
returns-in_err-changed-clause-extends c r e =
    c.in_err-changed.ensures.extends (equating c.args.left.now) (c.args.left.now ∷ []) [] c.args.left.now r truth
    (c.in_ok-itself.ensures _ (known_left _ _ _ _ e)) refl e

pub returns-in_err-number-clause-extends : goal.returns-in_err-number-clause-extends
returns-in_err-number-clause-extends c r e =
    extends_trans _ _ _ (c.in_ok-changed.ensures.extends (equating c.args.left.now) (c.args.left.now ∷ [])
    [] c.args.left.now r truth (c.in_ok-itself.ensures _ (known_left _ _ _ _ e)) refl e)
    (extends_same _ _ c.in_err-number.ensures.err)

pub returns-clause-says : goal.returns-clause-says
returns-clause-says c r e =
    equated_by _ _ c.args.left.now r
    (c.in_ok-number.ensures.says truth (apply_two (equating c.args.left.now) c.args.left.now r)
    (c.in_ok-changed.ensures.says (equating c.args.left.now) (c.args.left.now ∷ []) [] c.args.left.now r truth
    (c.in_ok-itself.ensures _ (known_left _ _ _ _ e)) refl e))

pub returns-clause-extends : goal.returns-clause-extends
returns-clause-extends c r e =
    extends_trans _ _ _ (c.in_ok-changed.ensures.extends (equating c.args.left.now) (c.args.left.now ∷ [])
    [] c.args.left.now r truth (c.in_ok-itself.ensures _ (known_left _ _ _ _ e)) refl e)
    (c.in_ok-number.ensures.extends truth (apply_two (equating c.args.left.now) c.args.left.now r)
    (c.in_ok-changed.ensures.says (equating c.args.left.now) (c.args.left.now ∷ []) [] c.args.left.now r truth
    (c.in_ok-itself.ensures _ (known_left _ _ _ _ e)) refl e))
