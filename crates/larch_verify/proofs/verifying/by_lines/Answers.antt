use Rattle.larch_verify_history.proofs.Staying.{past_stays}
use Rattle.larch_verify.specs.Checking.{state_of}
use Rattle.larch_verify.specs.Verdict.{refusal}
use Rattle.larch_verify.proofs.Taken.{begun, bad_verdict, good_verdict}
use Rattle.larch_verify.proofs.verifying.by_lines.Goals as goal

pub take_lines-requires-clause-past : goal.take_lines-requires-clause-past
take_lines-requires-clause-past c =
    past_stays c.args.theory.now c.args.pool.now c.intern_statements.new.pool c.args.past.now c.requires.past
    c.in_ok-axioms.ensures.grows

pub returns-in-Some : goal.returns-in-Some
returns-in-Some c =
    bad_verdict c.args.theory.now c.args.statement.now (state_of c.intern_statements.new.pool c.args.past.now)
    c.args.certificate.now c.in_ok-bad.bad c.in-Some.number c.in_ok-bad.ensures.bad c.in-Some.is
    (begun c.intern_statements.new.pool c.args.past.now c.requires.count
    (c.requires.history c.intern_statements.new.pool))

pub returns : goal.returns
returns c =
    good_verdict c.args.theory.now c.args.statement.now (state_of c.intern_statements.new.pool c.args.past.now)
    (state_of c.take_lines.new.pool c.take_lines.new.past) c.args.certificate.now (refusal c.in_ok-verdict.verdict)
    (c.in_ok-bad.ensures.all c.in_default.is c.args.statement.now)
    (begun c.intern_statements.new.pool c.args.past.now c.requires.count
    (c.requires.history c.intern_statements.new.pool))
    c.in_ok-verdict.ensures
