-- Each kind of command has its own call.
use Rattle.std.proofs.Common.{ap}
use Rattle.std.proofs.lemmas.Result.{on_err_weaker}
use Rattle.larch_prove.proofs.Reached.{ended_made, made_of, marked_made, marked_told, told_of}
use Rattle.larch_prove.proofs.Turns.{has_turn}
use Rattle.larch_prove.proofs.going.Going.step_by_kind.Goals as goal
use Rattle.larch_script_commands.specs.declared.command.CommandKind.TheVariants as command

pub returns-in-Mark-clause-made : goal.returns-in-Mark-clause-made
returns-in-Mark-clause-made c =
    marked_made c.args.self.now c.take_mark.new.draft c.args.kind.now c.in-Mark.is_proved c.take_mark.result
    c.in-Mark.is c.take_mark.ensures.taken

pub returns-in-Mark-clause-refused : goal.returns-in-Mark-clause-refused
returns-in-Mark-clause-refused c =
    marked_told c.args.self.now c.args.kind.now c.in-Mark.is_proved c.take_mark.result c.in-Mark.is
    c.take_mark.ensures.refused

pub returns-in-Mark-clause-err : goal.returns-in-Mark-clause-err
returns-in-Mark-clause-err c =
    on_err_weaker c.take_mark.result
    (λ e. ap (λ d. record c.args.self.now { work = record c.args.self.now.work { draft = d } }) e)
    c.take_mark.ensures.err

pub returns-in-Qed-clause-made : goal.returns-in-Qed-clause-made
returns-in-Qed-clause-made c =
    ended_made c.args.self.now c.args.kind.now c.finish.result c.in-Qed.is c.finish.ensures.made

pub returns-in-Qed-clause-refused : goal.returns-in-Qed-clause-refused
returns-in-Qed-clause-refused c =
    told_of c.args.self.now c.args.kind.now command.Qed c.finish.result c.in-Qed.is c.finish.ensures.refused

pub returns-in-BoxChecking-clause-made : goal.returns-in-BoxChecking-clause-made
returns-in-BoxChecking-clause-made c =
    made_of c.args.self.now c.set_checking.new.self c.args.kind.now (command.BoxChecking c.in-BoxChecking.on)
    c.set_checking.result c.in-BoxChecking.is c.set_checking.ensures.made

pub returns-in-BoxChecking-clause-refused : goal.returns-in-BoxChecking-clause-refused
returns-in-BoxChecking-clause-refused c =
    told_of c.args.self.now c.args.kind.now (command.BoxChecking c.in-BoxChecking.on) c.set_checking.result
    c.in-BoxChecking.is c.set_checking.ensures.refused

pub take_turn-requires-clause-turn : goal.take_turn-requires-clause-turn
take_turn-requires-clause-turn c =
    has_turn c.args.kind.now c.requires.command c.in_default.not-Mark c.in_default.not-Qed
    c.in_default.not-BoxChecking

pub returns-in_default-clause-made : goal.returns-in_default-clause-made
returns-in_default-clause-made c = c.take_turn.ensures.made

pub returns-in_default-clause-refused : goal.returns-in_default-clause-refused
returns-in_default-clause-refused c = c.take_turn.ensures.refused
