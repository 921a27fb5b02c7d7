use Rattle.larch_term.specs.Tree.{app, forest_of}
use Rattle.std.specs.Prelude.{◌++◌, ◌∷◌}
use Rattle.larch_derive_lines.proofs.DeriveGrowth.{extends_trans, stays_said}
use Rattle.larch_derive_formulas.proofs.instances.push_change.Goals as goal

pub returns-in_err-back-clause-extends : goal.returns-in_err-back-clause-extends
returns-in_err-back-clause-extends c f done rest t u r h p e =
    c.in_err-back.ensures.extends (app f (forest_of (done ++ t ∷ rest))) r h

pub returns-in_err-number-clause-extends : goal.returns-in_err-number-clause-extends
returns-in_err-number-clause-extends c f done rest t u r h p e =
    extends_trans _ _ _ (c.in_ok-back.ensures.extends (app f (forest_of (done ++ t ∷ rest))) r h)
    (c.in_err-number.ensures.extends r t u f done rest p
    (c.in_ok-back.ensures.says (app f (forest_of (done ++ t ∷ rest))) r h)
    (stays_said _ _ _ _ (c.in_ok-back.ensures.extends (app f (forest_of (done ++ t ∷ rest))) r h) e))

pub returns-clause-says : goal.returns-clause-says
returns-clause-says c f done rest t u r h p e =
    c.in_ok-number.ensures.says r t u f done rest p
    (c.in_ok-back.ensures.says (app f (forest_of (done ++ t ∷ rest))) r h)
    (stays_said _ _ _ _ (c.in_ok-back.ensures.extends (app f (forest_of (done ++ t ∷ rest))) r h) e)

pub returns-clause-extends : goal.returns-clause-extends
returns-clause-extends c f done rest t u r h p e =
    extends_trans _ _ _ (c.in_ok-back.ensures.extends (app f (forest_of (done ++ t ∷ rest))) r h)
    (c.in_ok-number.ensures.extends r t u f done rest p
    (c.in_ok-back.ensures.says (app f (forest_of (done ++ t ∷ rest))) r h)
    (stays_said _ _ _ _ (c.in_ok-back.ensures.extends (app f (forest_of (done ++ t ∷ rest))) r h) e))
