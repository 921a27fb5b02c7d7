use Rattle.std.proofs.Common.{◌∙◌, ap}
use Rattle.larch_flat_meaning.specs.Gathered.{new_among, statements_in}
use Rattle.larch_duties.proofs.Distinct.{new_beside}
use Rattle.larch_duties.proofs.known.not_discharged.Goals as goal

pub returns : goal.returns
returns c =
    c.in_ok-found.ensures ∙ ap (λ k. new_among (statements_in k) c.args.statements) c.in_ok-known.ensures
    ∙ new_beside c.args.discharge.now c.args.statements
