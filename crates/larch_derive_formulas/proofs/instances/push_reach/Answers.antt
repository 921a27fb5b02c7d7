use Rattle.larch_term.specs.Tree.{app, forest_of}
use Rattle.std.specs.Prelude.{◌++◌, ◌∷◌}
use Rattle.larch_derive_lines.proofs.DeriveGrowth.{extends_trans}
use Rattle.larch_derive_formulas.proofs.Rows.{instance_stays}
use Rattle.larch_derive_formulas.proofs.instances.push_reach.Goals as goal

pub returns-in_err-changed-clause-extends : goal.returns-in_err-changed-clause-extends
returns-in_err-changed-clause-extends c f done rest t u r v h p e k =
    c.in_err-changed.ensures.extends f done rest t u r h p e

pub returns-in_err-number-clause-extends : goal.returns-in_err-number-clause-extends
returns-in_err-number-clause-extends c f done rest t u r v h p e k =
    extends_trans _ _ _ (c.in_ok-changed.ensures.extends f done rest t u r h p e)
    (c.in_err-number.ensures.extends r (app f (forest_of (done ++ u ∷ rest))) v
    (c.in_ok-changed.ensures.says f done rest t u r h p e)
    (instance_stays _ _ c.args.second (app f (forest_of (done ++ u ∷ rest))) v
    (c.in_ok-changed.ensures.extends f done rest t u r h p e) k))

pub returns-clause-says : goal.returns-clause-says
returns-clause-says c f done rest t u r v h p e k =
    c.in_ok-number.ensures.says r (app f (forest_of (done ++ u ∷ rest))) v
    (c.in_ok-changed.ensures.says f done rest t u r h p e)
    (instance_stays _ _ c.args.second (app f (forest_of (done ++ u ∷ rest))) v
    (c.in_ok-changed.ensures.extends f done rest t u r h p e) k)

pub returns-clause-extends : goal.returns-clause-extends
returns-clause-extends c f done rest t u r v h p e k =
    extends_trans _ _ _ (c.in_ok-changed.ensures.extends f done rest t u r h p e)
    (c.in_ok-number.ensures.extends r (app f (forest_of (done ++ u ∷ rest))) v
    (c.in_ok-changed.ensures.says f done rest t u r h p e)
    (instance_stays _ _ c.args.second (app f (forest_of (done ++ u ∷ rest))) v
    (c.in_ok-changed.ensures.extends f done rest t u r h p e) k))
