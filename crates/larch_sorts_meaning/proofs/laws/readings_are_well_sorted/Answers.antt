use Rattle.larch_sorts_meaning.proofs.Sorted.{well_sorted, in_scope, statement_over, statement_in_scope}
use Rattle.larch_sorts_meaning.proofs.laws.readings_are_well_sorted.Goals as goal

pub returns-clause-equation : goal.returns-clause-equation
returns-clause-equation c = statement_over

pub returns-clause-equation_in_scope : goal.returns-clause-equation_in_scope
returns-clause-equation_in_scope c = statement_in_scope

pub returns-clause-term : goal.returns-clause-term
returns-clause-term c = λ fs vs wanted raw t r. well_sorted fs vs raw.left t r.0

pub returns-clause-term_in_scope : goal.returns-clause-term_in_scope
returns-clause-term_in_scope c = λ fs vs wanted raw t r. in_scope fs vs raw.left t r.0
