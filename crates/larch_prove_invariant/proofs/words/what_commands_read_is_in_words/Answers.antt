use Rattle.larch_prove_invariant.proofs.ReadWords.{equation_read, term_read}
use Rattle.larch_prove_invariant.proofs.words.what_commands_read_is_in_words.Goals as goal

pub returns-clause-equation : goal.returns-clause-equation
returns-clause-equation c = equation_read

pub returns-clause-term : goal.returns-clause-term
returns-clause-term c = term_read
