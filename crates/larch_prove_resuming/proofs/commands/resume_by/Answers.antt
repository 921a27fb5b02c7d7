-- By cases of a term, or without one.
use Rattle.std.proofs.Common.{subst}
use Rattle.larch_prove_resuming.proofs.ByKind.{has_method, made_as, refused_as}
use Rattle.larch_prove_resuming.proofs.commands.resume_by.Goals as goal
use Rattle.larch_script_commands.specs.Worded.{WordedKind}
use Rattle.larch_script_commands.specs.declared.command.CommandKind.TheVariants as command

pub resume_by_cases-requires-clause-alone : goal.resume_by_cases-requires-clause-alone
resume_by_cases-requires-clause-alone c = (subst WordedKind c.in-Cases.is c.requires.worded).1

pub returns-in-Cases-clause-made : goal.returns-in-Cases-clause-made
returns-in-Cases-clause-made c =
    made_as c.args.claim.now.theory c.args.claim.now.statement c.args.work.now c.resume_by_cases.new.work
    c.args.kind.now (command.Cases c.in-Cases.term) c.resume_by_cases.result c.in-Cases.is
    c.resume_by_cases.ensures.made

pub returns-in-Cases-clause-refused : goal.returns-in-Cases-clause-refused
returns-in-Cases-clause-refused c =
    refused_as c.args.claim.now.theory c.args.claim.now.statement c.args.work.now c.args.kind.now
    (command.Cases c.in-Cases.term) c.resume_by_cases.result c.in-Cases.is c.resume_by_cases.ensures.refused

pub resume_without_term-requires-clause-kind : goal.resume_without_term-requires-clause-kind
resume_without_term-requires-clause-kind c = has_method c.args.kind.now c.requires.kind c.in_default.not-Cases

pub returns-in_default-clause-made : goal.returns-in_default-clause-made
returns-in_default-clause-made c = c.resume_without_term.ensures.made

pub returns-in_default-clause-refused : goal.returns-in_default-clause-refused
returns-in_default-clause-refused c = c.resume_without_term.ensures.refused
