use Rattle.larch_words.proofs.Checked.{names_files}
use Rattle.larch_words.proofs.laws.calls_name_files.Goals as goal

pub returns : goal.returns
returns c words = names_files words
