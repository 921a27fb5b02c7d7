use Rattle.std.proofs.Common.{◌≡◌, ◌↔◌, IsTrue}
use Rattle.larch_models_meaning.specs.FiniteModel.{Fits}
use Rattle.larch_models.specs.declared.truth.TheConstants.{MAX_ASSIGNMENTS}
use Rattle.larch_models.proofs.Rests.{if_ok}
use Rattle.larch_models_answer.specs.Judgements.{is_small}
use Rattle.larch_models_answer.proofs.Findings.{small_if_fits}
use Rattle.larch_models_answer.proofs.judging.is_small.Goals as goal

pub returns : goal.returns
returns c =
    if_ok (λ answer. IsTrue answer ↔ Fits MAX_ASSIGNMENTS c.args.model.now c.args.statement.now)
    (λ answer. answer ≡ is_small c.args.model.now c.args.statement.now) c.fits.result
    (λ answer. small_if_fits c.args.model.now c.args.statement.now answer) c.fits.ensures
