use Rattle.std.proofs.Common.{◌≡◌, ◌∙◌}
use Rattle.larch_models_meaning.specs.FiniteModel.{interpretation_of}
use Rattle.larch_models.specs.Tables.{made_by, made_by_table}
use Rattle.larch_models.proofs.Makers.{built_in_made, table_made}
use Rattle.larch_models.proofs.Rests.{if_ok}
use Rattle.larch_models.proofs.maker.maker_of.Goals as goal

pub returns-in-Some : goal.returns-in-Some
returns-in-Some c =
    built_in_made c.args.model.now c.in-Some.built_in c.args.operator.now c.in-Some.ensures.some

pub returns-in-None : goal.returns-in-None
returns-in-None c =
    if_ok (λ maker. made_by maker ≡ made_by_table c.args.model.now c.args.operator.now)
    (λ maker. made_by maker ≡ (interpretation_of c.args.model.now).table c.args.operator.now) c.table_of.result
    (λ maker e. e ∙ table_made c.args.model.now c.args.operator.now c.in-None.ensures.none) c.table_of.ensures
