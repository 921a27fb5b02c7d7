use Rattle.larch_prove_invariant.proofs.ReadWords.{statement_worded, term_worded, theory_in_words}
use Rattle.larch_prove_invariant.proofs.words.words_are_words.Goals as goal

pub returns-clause-term : goal.returns-clause-term
returns-clause-term c = term_worded

pub returns-clause-statement : goal.returns-clause-statement
returns-clause-statement c = statement_worded

pub returns-clause-theory : goal.returns-clause-theory
returns-clause-theory c = theory_in_words
