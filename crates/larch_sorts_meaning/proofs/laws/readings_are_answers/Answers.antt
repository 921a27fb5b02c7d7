use Rattle.larch_sorts_meaning.proofs.Converse.{equation_answered, equation_refused, term_answered, term_refused}
use Rattle.larch_sorts_meaning.proofs.laws.readings_are_answers.Goals as goal

pub returns-clause-equation : goal.returns-clause-equation
returns-clause-equation c = equation_answered

pub returns-clause-equation_refused : goal.returns-clause-equation_refused
returns-clause-equation_refused c = equation_refused

pub returns-clause-term : goal.returns-clause-term
returns-clause-term c = term_answered

pub returns-clause-term_refused : goal.returns-clause-term_refused
returns-clause-term_refused c = term_refused
