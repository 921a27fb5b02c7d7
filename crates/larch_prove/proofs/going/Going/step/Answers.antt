-- A line that is no command is refused; any other one is counted.
use Rattle.larch_prove.proofs.Turns.{bad_refused, is_command}
use Rattle.larch_prove.proofs.going.Going.step.Goals as goal

pub returns-in-Bad-clause-refused : goal.returns-in-Bad-clause-refused
returns-in-Bad-clause-refused c = λ s p g. bad_refused c.args.kind.now c.in-Bad.code p c.in-Bad.is

pub count_step-requires-clause-command : goal.count_step-requires-clause-command
count_step-requires-clause-command c = is_command c.args.kind.now c.in_default.not-Bad

pub returns-in_default-clause-stepped : goal.returns-in_default-clause-stepped
returns-in_default-clause-stepped c = c.count_step.ensures.stepped

pub returns-in_default-clause-refused : goal.returns-in_default-clause-refused
returns-in_default-clause-refused c = c.count_step.ensures.refused

pub returns-in_default-clause-err : goal.returns-in_default-clause-err
returns-in_default-clause-err c = c.count_step.ensures.err
