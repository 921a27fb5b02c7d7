use Rattle.std.proofs.Common.{◌∙◌, ap}
use Rattle.larch_flat_meaning.specs.Gathered.{Gathered}
use Rattle.larch_duties_meaning.specs.Duties.{Duties}
use Rattle.larch_duties.specs.Own.{own_claims}
use Rattle.larch_duties.specs.TraitDuties.{flat_with}
use Rattle.larch_duties.proofs.OwnKept.{own_kept}
use Rattle.larch_duties.proofs.own.claims_over.Goals as goal

pub returns : goal.returns
returns c raw =
    own_kept raw c.args.flat.now c.duties.inside.flat.now c.duties.inside.implied c.duties.inside.conversions
    (record { theory = c.in_ok-theory.theory; assumed = c.in_ok-assumed.assumed; implied = c.in_ok-implied.implied })
    c.in_ok-theory.ensures
    (c.in_ok-assumed.ensures ∙ c.as_slice-discharge.ensures ∙ ap (λ (g : Gathered). g.discharge) c.own.view_is)
    (c.in_ok-implied.ensures ∙ c.as_slice-claimed.ensures)
    ∙ ap (λ (d : Duties). own_claims (flat_with raw c.args.flat.now) d) c.duties.view_is
