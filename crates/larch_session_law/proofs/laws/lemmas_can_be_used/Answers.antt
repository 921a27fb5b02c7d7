use Rattle.larch_session_law.proofs.Lemmas.{lemmas_over, lemmas_worded}
use Rattle.larch_session_law.proofs.laws.lemmas_can_be_used.Goals as goal

pub returns-clause-sorted : goal.returns-clause-sorted
returns-clause-sorted c = λ duties duty earlier claims d among. lemmas_over duties claims earlier among duty d

pub returns-clause-words : goal.returns-clause-words
returns-clause-words c = λ duties duty earlier claims among. lemmas_worded duties claims earlier among duty
