-- Answers about models, as contracts see them.
use Rattle.std.specs.Prelude.{ℕ, Option, None, Some}
use Rattle.larch_models.specs.declared.truth.ModelAnswer.{ModelAnswer}
use Rattle.larch_models.specs.declared.truth.ModelAnswer.TheVariants.{Model, Fails}

-- the number of the first statement that doesn't hold
abbrev pub failing : ModelAnswer → Option ℕ
failing Model = None
failing (Fails k) = Some k
