-- The formula that was read is one by which the proof may be resumed.
use Rattle.std.proofs.Common.{subst, sym}
use Rattle.std.proofs.lemmas.Result.{err_from_is_err_and}
use Rattle.larch_prove_resuming.proofs.ByCases.{cases_as, formula_may, read_as, unread_as}
use Rattle.larch_prove_resuming.proofs.cases.resume_by_cases.Goals as goal
use Rattle.larch_prove_work.proofs.ProveSettlingLeaving.{if_answered, if_refused}
use Rattle.larch_prove_work.proofs.Readings.{tells_as, tells_before}
use Rattle.larch_prove_work.specs.Work.{Makes}

pub resume_by_formula-requires-clause-works : goal.resume_by_formula-requires-clause-works
resume_by_formula-requires-clause-works c =
    let q = c.requires.works in (
      q.0,
      formula_may _ _ _ q.0 c.args.raw.now c.in_ok-formula.formula
          (read_as q.0 _ c.args.raw.now _ c.in_ok-sort.ensures
          (c.in_ok-formula.ensures.read q.0 q.1.work.settings)) q.1,
    )

pub returns-clause-made : goal.returns-clause-made
returns-clause-made c =
    let raw = c.args.raw.now in
    if_answered _ _ c.resume_by_formula.result (λ x h p m.
    let read = read_as p _ raw _ c.in_ok-sort.ensures (c.in_ok-formula.ensures.read p m.work.settings) in
    subst (Makes c.args.claim.now.theory c.args.claim.now.statement c.resume_by_formula.new.work p)
    (sym (cases_as p raw c.in_ok-formula.formula read))
    (h p (formula_may _ _ _ p raw c.in_ok-formula.formula read m))) c.resume_by_formula.ensures.made

pub returns-clause-refused : goal.returns-clause-refused
returns-clause-refused c =
    let raw = c.args.raw.now in
    if_refused _ _ c.resume_by_formula.result (λ r h p m.
    let read = read_as p _ raw _ c.in_ok-sort.ensures (c.in_ok-formula.ensures.read p m.work.settings) in
    tells_as _ _ r (cases_as p raw c.in_ok-formula.formula read)
    (h p (formula_may _ _ _ p raw c.in_ok-formula.formula read m))) c.resume_by_formula.ensures.refused

pub returns-in_err-formula-clause-refused : goal.returns-in_err-formula-clause-refused
returns-in_err-formula-clause-refused c =
    let q = err_from_is_err_and c.from_residual-in_err-formula.result c.from_residual-in_err-formula.ensures.1 in
    rw (q.1, q.2) (λ p m.
    tells_before _ _ c.in_err-formula.field-0.0
    (unread_as p _ c.args.raw.now _ c.in_ok-sort.ensures (c.in_err-formula.ensures.refused p m.work.settings)))
