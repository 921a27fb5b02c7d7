-- What was read is a formula that can be proved.
use Rattle.std.proofs.Common.{subst, sym}
use Rattle.std.proofs.lemmas.Result.{err_from_is_err_and}
use Rattle.larch_prove_settling.proofs.Leaving.{if_answered, if_refused}
use Rattle.larch_prove_work.proofs.Readings.{carried_as, formula_may, tells_as, tells_before}
use Rattle.larch_prove_work.proofs.formula.prove.Goals as goal
use Rattle.larch_prove_work.specs.Work.{Makes}

pub prove_formula-requires-clause-works : goal.prove_formula-requires-clause-works
prove_formula-requires-clause-works c =
    let q = c.requires.works in (
      q.0,
      formula_may _ _ _ q.0 c.args.raw.now _ c.in_ok-formula.formula c.in_ok-formula.ensures
          (c.in_ok-left.ensures.read q.0 q.1.work.settings) q.1,
    )

pub returns-clause-proved : goal.returns-clause-proved
returns-clause-proved c =
    if_answered _ _ c.prove_formula.result (λ x h p m.
    let read = c.in_ok-left.ensures.read p m.work.settings in
    subst (Makes c.args.claim.now.theory c.args.claim.now.statement c.prove_formula.new.work p)
    (sym (carried_as p c.args.raw.now _ c.in_ok-formula.formula c.in_ok-formula.ensures read))
    (h p (formula_may _ _ _ p c.args.raw.now _ c.in_ok-formula.formula c.in_ok-formula.ensures read m)))
    c.prove_formula.ensures.proved

pub returns-clause-refused : goal.returns-clause-refused
returns-clause-refused c =
    if_refused _ _ c.prove_formula.result (λ r h p m.
    let read = c.in_ok-left.ensures.read p m.work.settings in
    tells_as _ _ r (carried_as p c.args.raw.now _ c.in_ok-formula.formula c.in_ok-formula.ensures read)
    (h p (formula_may _ _ _ p c.args.raw.now _ c.in_ok-formula.formula c.in_ok-formula.ensures read m)))
    c.prove_formula.ensures.refused

pub returns-in_err-left-clause-refused : goal.returns-in_err-left-clause-refused
returns-in_err-left-clause-refused c =
    let q = err_from_is_err_and c.from_residual.result c.from_residual.ensures.1 in
    rw (q.1, q.2) (λ p m.
    tells_before _ _ c.in_err-left.field-0.0 (c.in_err-left.ensures.refused p m.work.settings))
