use Rattle.larch_duties.proofs.Worded.{claims_in_words, discharge_in_words, duties_in_words, theory_in_words}
use Rattle.larch_duties.proofs.laws.claims_are_in_words.Goals as goal

pub returns-clause-theory : goal.returns-clause-theory
returns-clause-theory c = theory_in_words

pub returns-clause-discharge : goal.returns-clause-discharge
returns-clause-discharge c = discharge_in_words

pub returns-clause-duties : goal.returns-clause-duties
returns-clause-duties c = duties_in_words

pub returns-clause-claims : goal.returns-clause-claims
returns-clause-claims c = claims_in_words
