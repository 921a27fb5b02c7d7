-- A method is planned, and then carried out.
use Rattle.std.proofs.Common.{subst, sym}
use Rattle.std.proofs.lemmas.Result.{err_from_is_err_and}
use Rattle.larch_prove_resuming.proofs.Reaching.{resumed_as, same_method}
use Rattle.larch_prove_resuming.proofs.resuming.resume.Goals as goal
use Rattle.larch_prove_work.proofs.ProveSettlingLeaving.{if_answered, if_refused}
use Rattle.larch_prove_work.proofs.Readings.{tells_as, tells_before}
use Rattle.larch_prove_work.specs.Work.{Makes}

pub carry_out-requires-clause-works : goal.carry_out-requires-clause-works
carry_out-requires-clause-works c =
    let q = c.requires.works in let e = c.in_ok-planned.ensures.method in
    let z = c.in_ok-planned.ensures.planned q.0 q.1.may_work in
    (q.0, (z.0, (same_method _ _ _ c.args.method c.in_ok-planned.planned q.0 e q.1, z.1)))

pub returns-clause-made : goal.returns-clause-made
returns-clause-made c =
    let e = c.in_ok-planned.ensures.method in
    if_answered _ _ c.carry_out.result (λ x h p may.
    let z = c.in_ok-planned.ensures.planned p may.may_work in
    subst (Makes c.args.claim.now.theory c.args.claim.now.statement c.carry_out.new.work p)
    (sym (resumed_as p c.args.method c.in_ok-planned.planned z.0 e z.1))
    (h p z.0 (same_method _ _ _ c.args.method c.in_ok-planned.planned p e may) z.1)) c.carry_out.ensures.made

pub returns-clause-refused : goal.returns-clause-refused
returns-clause-refused c =
    let e = c.in_ok-planned.ensures.method in
    if_refused _ _ c.carry_out.result (λ r h p may.
    let z = c.in_ok-planned.ensures.planned p may.may_work in
    tells_as _ _ r (resumed_as p c.args.method c.in_ok-planned.planned z.0 e z.1)
    (h p z.0 (same_method _ _ _ c.args.method c.in_ok-planned.planned p e may) z.1)) c.carry_out.ensures.refused

pub returns-in_err-planned-clause-refused : goal.returns-in_err-planned-clause-refused
returns-in_err-planned-clause-refused c =
    let q = err_from_is_err_and c.from_residual.result c.from_residual.ensures.1 in
    rw (q.1, q.2) (λ p may.
    tells_before _ _ c.in_err-planned.field-0.0 (c.in_err-planned.ensures.refused p may.may_work))
