use Rattle.std.proofs.Common.{refl}
use Rattle.std.specs.Fmt.{digits}
use Rattle.larch_term.specs.OperatorKey.{same_operator}
use Rattle.larch_models_meaning.specs.ModelText.{read_model}
use Rattle.larch_models_meaning.proofs.texts.lines_outside.Goals as goal

pub returns : goal.returns
unfolding digits read_model same_operator
returns c = record {
  no_model = refl;
  truth = refl;
  twice = refl;
  empty = refl;
  long = refl;
  high = refl;
  missing = refl;
  further = refl;
  unended = refl;
}
