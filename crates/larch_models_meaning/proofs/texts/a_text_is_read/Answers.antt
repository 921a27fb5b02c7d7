use Rattle.std.proofs.Common.{refl}
use Rattle.std.specs.Fmt.{digits}
use Rattle.larch_term.specs.OperatorKey.{same_operator}
use Rattle.larch_models_meaning.specs.ModelText.{read_model}
use Rattle.larch_models_meaning.proofs.texts.a_text_is_read.Goals as goal

pub returns : goal.returns
unfolding digits read_model same_operator
returns c = refl
