use Rattle.larch_sorts_meaning.proofs.ReadAnswers.{equation_ok, equation_err, term_ok, term_err}
use Rattle.larch_sorts_meaning.proofs.laws.answers_are_readings.Goals as goal

pub returns-clause-equation : goal.returns-clause-equation
returns-clause-equation c = equation_ok

pub returns-clause-equation_refused : goal.returns-clause-equation_refused
returns-clause-equation_refused c = equation_err

pub returns-clause-term : goal.returns-clause-term
returns-clause-term c = term_ok

pub returns-clause-term_refused : goal.returns-clause-term_refused
returns-clause-term_refused c = term_err
