use Rattle.larch_rewrite_law.proofs.Turns.{begins_large, begins_variable, begins_application}
use Rattle.larch_rewrite_law.proofs.levels.terms_begin.Goals as goal

pub returns-clause-large : goal.returns-clause-large
returns-clause-large c rules t b h = begins_large rules t b h

pub returns-clause-variable : goal.returns-clause-variable
returns-clause-variable c rules n s b = begins_variable rules n s b

pub returns-clause-application : goal.returns-clause-application
returns-clause-application c rules f ts b h = begins_application rules f ts b h
