use Rattle.std.proofs.Common.{◌≡◌, ◌∙◌, ap, subst}
use Rattle.std.specs.Prelude.{IfOk}
use Rattle.larch_duties_meaning.specs.Claims.{claims_in}
use Rattle.larch_duties.specs.Kept.{duties_in}
use Rattle.larch_duties.proofs.claims.claims_in.Goals as goal

pub returns : goal.returns
returns c =
    let g = c.duties.inside.flat.now in
    subst (λ d. IfOk c.all_claims.result (λ claims. claims ≡ claims_in d))
    (ap (λ ss. duties_in g ss c.as_slice-conversions.result.now) c.as_slice-implied.ensures
    ∙ ap (λ ks. duties_in g c.duties.inside.implied ks) c.as_slice-conversions.ensures ∙ c.duties.view_is)
    c.all_claims.ensures
