use Rattle.larch_prove_meaning.proofs.ReadWords.{equation_words, term_words}
use Rattle.larch_prove_meaning.proofs.words.commands_read_words.Goals as goal

pub returns-clause-equation : goal.returns-clause-equation
returns-clause-equation c p raw e h k = equation_words p h raw e k

pub returns-clause-term : goal.returns-clause-term
returns-clause-term c p s raw t h k = term_words p h s raw t k
