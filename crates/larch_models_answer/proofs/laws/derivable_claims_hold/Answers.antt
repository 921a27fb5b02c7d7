use Rattle.std.proofs.Common.{◌++◌, ap}
use Rattle.larch_base.specs.Label.{label_text}
use Rattle.larch_models_answer.specs.Judgements.{verdict_text}
use Rattle.larch_models_answer.proofs.laws.derivable_claims_hold.Goals as goal

pub returns : goal.returns
returns c t m label s w h d =
    ap (λ so. label_text label ++ verdict_text so) (c.finite_models.ensures.sound t s m w h d)
