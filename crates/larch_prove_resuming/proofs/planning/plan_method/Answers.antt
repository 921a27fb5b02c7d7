-- The plan of the code is the definition's.
use Rattle.std.specs.Prelude.{◌≡◌, Err, IfSome}
use Rattle.std.proofs.Common.{subst, sym, ◌∙◌}
use Rattle.larch_prove_meaning.specs.Plans.{plan}
use Rattle.larch_prove_meaning.specs.Steps.{setting_of}
use Rattle.larch_prove_plans.specs.Planning.{cause, method_of}
use Rattle.larch_prove_resuming.proofs.Plans.{planned_from, unplanned}
use Rattle.larch_prove_resuming.proofs.Reaching.{plans_are}
use Rattle.larch_prove_resuming.proofs.planning.plan_method.Goals as goal
use Rattle.larch_prove_work.specs.ProveSettingsTelling.{Tells}

pub returns-in-Ok-clause-planned : goal.returns-in-Ok-clause-planned
returns-in-Ok-clause-planned c = λ p may.
    let z = planned_from _ _
    (sym (plans_are c.args.claim.now.theory c.args.claim.now.statement c.args.work.now p may
    c.as_slice.result.now c.in_ok-goal.goal c.args.method (c.as_slice.ensures.value ∙ c.in_ok-names.ensures)
    c.in_ok-goal.ensures) ∙ c.in-Ok.ensures) in
    (z.0, record { plans = z.1.0; same = z.1.1 })

pub returns-in-Err-clause-refused : goal.returns-in-Err-clause-refused
returns-in-Err-clause-refused c = λ p may.
    subst (Tells (plan (setting_of p) p.current.goal (method_of c.args.method))) (sym c.plan_refusal.ensures)
    (unplanned (plan (setting_of p) p.current.goal (method_of c.args.method)) c.in-Err.refusal
    (subst (λ a. IfSome (cause c.in-Err.refusal) (λ code. a ≡ Err code))
    (plans_are c.args.claim.now.theory c.args.claim.now.statement c.args.work.now p may
    c.as_slice.result.now c.in_ok-goal.goal c.args.method (c.as_slice.ensures.value ∙ c.in_ok-names.ensures)
    c.in_ok-goal.ensures) c.in-Err.ensures))
