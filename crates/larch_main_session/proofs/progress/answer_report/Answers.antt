-- A report takes no more steps than one from nothing.
use Rattle.std.proofs.Common.{arith}
use Rattle.larch_prove_meaning.proofs.Redone.{redo_most}
use Rattle.larch_session.specs.SessionKeptKept.{records_in, limit_in}
use Rattle.larch_session_derive_meaning.specs.SessionMeaningRedone.{replayed_on}
use Rattle.larch_main_session.proofs.progress.answer_report.Goals as goal

pub returns-clause-most : goal.returns-clause-most
returns-clause-most g c =
    let most = c.report.ensures.most in
    let redone = redo_most (records_in c.args.progress.now.session.base)
    (replayed_on (limit_in c.args.progress.now.session.base) c.args.progress.now.session.files) in
    omega (arith, most, redone)

pub returns-in_err-lines-clause-most : goal.returns-in_err-lines-clause-most
returns-in_err-lines-clause-most g c =
    let most = c.report.ensures.most in
    let redone = redo_most (records_in c.args.progress.now.session.base)
    (replayed_on (limit_in c.args.progress.now.session.base) c.args.progress.now.session.files) in
    omega (arith, most, redone)

pub returns-in_err-text-clause-most : goal.returns-in_err-text-clause-most
returns-in_err-text-clause-most g c =
    let most = c.report.ensures.most in
    let redone = redo_most (records_in c.args.progress.now.session.base)
    (replayed_on (limit_in c.args.progress.now.session.base) c.args.progress.now.session.files) in
    omega (arith, most, redone)
