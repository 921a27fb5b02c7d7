-- The method of the command is carried out.
use Rattle.std.proofs.Common.{subst, sym}
use Rattle.larch_prove_plans.specs.Planning.{method_of}
use Rattle.larch_prove_resuming.proofs.ByKind.{resumed_by, without_term}
use Rattle.larch_prove_resuming.proofs.commands.resume_without_term.Goals as goal
use Rattle.larch_prove_work.proofs.ProveSettlingLeaving.{if_answered, if_refused}
use Rattle.larch_prove_work.proofs.Readings.{tells_as}
use Rattle.larch_prove_work.specs.Work.{Makes}

pub resume-requires-clause-works : goal.resume-requires-clause-works
resume-requires-clause-works c =
    let q = c.requires.works in
    (q.0, without_term _ _ _ c.args.kind.now c.in_ok-method.method q.0 c.in_ok-method.ensures q.1)

pub returns-clause-made : goal.returns-clause-made
returns-clause-made c =
    let k = c.args.kind.now in let e = c.in_ok-method.ensures in
    if_answered _ _ c.resume.result (λ x h p m.
    subst (Makes c.args.claim.now.theory c.args.claim.now.statement c.resume.new.work p)
    (sym (resumed_by k (method_of c.in_ok-method.method) p e))
    (h p (without_term _ _ _ k c.in_ok-method.method p e m))) c.resume.ensures.made

pub returns-clause-refused : goal.returns-clause-refused
returns-clause-refused c =
    let k = c.args.kind.now in let e = c.in_ok-method.ensures in
    if_refused _ _ c.resume.result (λ r h p m.
    tells_as _ _ r (resumed_by k (method_of c.in_ok-method.method) p e)
    (h p (without_term _ _ _ k c.in_ok-method.method p e m))) c.resume.ensures.refused
