-- Each has its own call.
use Rattle.std.proofs.Common.{ap}
use Rattle.std.specs.Prelude.{true, false}
use Rattle.larch_prove.proofs.Reached.{made_of, told_of}
use Rattle.larch_prove.proofs.going.Going.set_checking.Goals as goal
use Rattle.larch_script_commands.specs.declared.command.CommandKind.TheVariants as command

pub returns-then-on-clause-made : goal.returns-then-on-clause-made
returns-then-on-clause-made c =
    made_of c.args.self.now c.begin_checking.new.self (command.BoxChecking c.args.on) (command.BoxChecking true)
    c.begin_checking.result (ap (λ b. command.BoxChecking b) c.if-on.true) c.begin_checking.ensures.made

pub returns-then-on-clause-refused : goal.returns-then-on-clause-refused
returns-then-on-clause-refused c =
    told_of c.args.self.now (command.BoxChecking c.args.on) (command.BoxChecking true) c.begin_checking.result
    (ap (λ b. command.BoxChecking b) c.if-on.true) c.begin_checking.ensures.refused

pub returns-else-on-clause-made : goal.returns-else-on-clause-made
returns-else-on-clause-made c =
    made_of c.args.self.now c.end_checking.new.self (command.BoxChecking c.args.on) (command.BoxChecking false)
    c.end_checking.result (ap (λ b. command.BoxChecking b) c.if-on.false) c.end_checking.ensures.made

pub returns-else-on-clause-refused : goal.returns-else-on-clause-refused
returns-else-on-clause-refused c =
    told_of c.args.self.now (command.BoxChecking c.args.on) (command.BoxChecking false) c.end_checking.result
    (ap (λ b. command.BoxChecking b) c.if-on.false) c.end_checking.ensures.refused
