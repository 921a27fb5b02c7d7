use Rattle.larch_words.proofs.Checked.{names_models}
use Rattle.larch_words.proofs.laws.models_are_named.Goals as goal

pub returns : goal.returns
returns c words names tried = names_models words names tried
