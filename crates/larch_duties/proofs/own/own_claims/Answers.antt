use Rattle.std.proofs.Common.{◌∙◌, ap, Ok, Some}
use Rattle.larch_flat.specs.FlatSourcesSources.{name_at}
use Rattle.larch_duties.proofs.OwnKept.{own_told}
use Rattle.larch_duties.proofs.OwnDuties.{few_assumed, few_implied}
use Rattle.larch_duties.proofs.own.own_claims.Goals as goal

pub returns-in_ok-claims_over-in-Ok-clause-claims : goal.returns-in_ok-claims_over-in-Ok-clause-claims
returns-in_ok-claims_over-in-Ok-clause-claims c =
    own_told c.args.sources.now (name_at c.args.sources.now c.args.number) c.in-Ok.flat c.in_ok-duties-in-Ok.duties
    c.in_ok-claims_over-in-Ok.field-0
    (c.requires.known.flat c.args.number (Ok c.in-Ok.flat) (c.known_of.ensures ∙ ap Some c.in-Ok.is))
    c.in_ok-duties-in-Ok.ensures c.in_ok-claims_over-in-Ok.ensures

pub returns-in_ok-claims_over-in-Ok-clause-assumed : goal.returns-in_ok-claims_over-in-Ok-clause-assumed
returns-in_ok-claims_over-in-Ok-clause-assumed c =
    few_assumed c.args.sources.now (name_at c.args.sources.now c.args.number) c.in_ok-claims_over-in-Ok.field-0
    (returns-in_ok-claims_over-in-Ok-clause-claims c)

pub returns-in_ok-claims_over-in-Ok-clause-implied : goal.returns-in_ok-claims_over-in-Ok-clause-implied
returns-in_ok-claims_over-in-Ok-clause-implied c =
    few_implied c.args.sources.now (name_at c.args.sources.now c.args.number) c.in_ok-claims_over-in-Ok.field-0
    (returns-in_ok-claims_over-in-Ok-clause-claims c)
