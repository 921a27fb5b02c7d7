use Rattle.larch_main_session.proofs.Entries.{input_is_done}
use Rattle.larch_main_session.proofs.laws.what_is_in_the_grammar_is_done.Goals as goal

pub returns : goal.returns
returns c = input_is_done
