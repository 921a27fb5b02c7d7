use Rattle.larch_script.proofs.Words.{script_words}
use Rattle.larch_script.proofs.laws.commands_are_in_words.Goals as goal

pub returns : goal.returns
returns c text = script_words text
