use Rattle.std.proofs.Common.{◌∙◌, ◌++◌, ap, None}
use Rattle.larch_base.specs.declared.label.Label.TheVariants.{Assume, Imply}
use Rattle.larch_flat_meaning.specs.Gathered.{Gathered}
use Rattle.larch_duties.specs.Kept.{theory_in}
use Rattle.larch_duties.specs.Labelling.{claims_from}
use Rattle.larch_duties.proofs.Labels.{own_put}
use Rattle.larch_duties.proofs.claims.put_own.Goals as goal

pub returns : goal.returns
returns c =
    let t = theory_in c.args.flat.now in
    let discharge = c.as_slice.ensures ∙ ap (λ (g : Gathered). g.discharge) c.flat.view_is in
    own_put t c.args.flat.now.discharge c.args.implied.now c.args.claims.now c.put_kind.new.claims
    c.put_kind-2.new.claims
    (c.in_ok-put_kind.ensures
    ∙ ap (λ u. c.args.claims.now ++ claims_from (Assume 1) None u c.as_slice.result.now) c.in_ok-theory.ensures
    ∙ ap (λ ss. c.args.claims.now ++ claims_from (Assume 1) None t ss) discharge)
    (c.in_ok-put_kind-2.ensures
    ∙ ap (λ u. c.put_kind.new.claims ++ claims_from (Imply 1) None u c.args.implied.now) c.in_ok-theory.ensures)
