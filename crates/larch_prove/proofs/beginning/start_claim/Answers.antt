-- A claim, what is worked on of it, and no command yet.
use Rattle.std.proofs.lemmas.Result.{err_from_is_err_and}
use Rattle.larch_prove.proofs.Begins.{begun_so}
use Rattle.larch_prove.proofs.beginning.start_claim.Goals as goal

pub returns-in_err-work-clause-refused : goal.returns-in_err-work-clause-refused
returns-in_err-work-clause-refused c =
    let q = err_from_is_err_and c.from_residual.result c.from_residual.ensures.1 in
    rw (q.1, q.2) (c.in_err-work.ensures.refused)

pub returns-clause-begun : goal.returns-clause-begun
returns-clause-begun c =
    begun_so c.args.duty.now c.args.claim c.in_ok-work.work _ _ c.requires.claim
    c.in_ok-work.ensures.started c.in_ok-going_from.ensures.claim c.in_ok-going_from.ensures.work
    c.in_ok-going_from.ensures.commands
