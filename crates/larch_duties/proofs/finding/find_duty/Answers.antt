use Rattle.std.proofs.Common.{◌∙◌, ap}
use Rattle.larch_duties_meaning.specs.Duties.{Duties, all_duties}
use Rattle.larch_duties.specs.Finding.{kept_duty}
use Rattle.larch_duties.proofs.Found.{duty_with, kept_found}
use Rattle.larch_duties.proofs.finding.find_duty.Goals as goal

pub returns : goal.returns
returns c =
    let g = c.duties.inside.flat.now in
    let text = c.args.label.now in
    c.in_ok-found.ensures
    ∙ ap (λ ss. kept_duty g ss c.as_slice-conversions.result.now text) c.as_slice-implied.ensures
    ∙ ap (λ ks. kept_duty g c.duties.inside.implied ks text) c.as_slice-conversions.ensures
    ∙ kept_found g c.duties.inside.implied c.duties.inside.conversions text
    ∙ ap (λ (d : Duties). duty_with text (all_duties d)) c.duties.view_is
