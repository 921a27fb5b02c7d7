-- Those of the plan that weren't left, but for the open one.
use Rattle.std.specs.Prelude.{length}
use Rattle.std.proofs.Common.{ap, arith, ◌∙◌}
use Rattle.larch_prove.proofs.Waiting.{none_waits, running_waits}
use Rattle.larch_prove.proofs.going.waiting_on.Goals as goal
use Rattle.larch_prove_resuming.specs.ProveLevelsLevelPlanned.{Planned}

pub returns-in_default : goal.returns-in_default
returns-in_default c = none_waits c.args.level.now.running c.in_default.not-Some

pub returns : goal.returns
returns c =
    running_waits c.args.level.now.running c.in-Some.running (length c.as_slice-planned.result.now)
    (length c.as_slice.result.now) c.saturating_add-begun.result c.saturating_sub.result c.unwrap_or.result
    c.try_from.result c.in-Some.is
    (ap length c.as_slice-planned.ensures ∙ ap (λ (x : Planned). length x.plan.subgoals) c.deref.ensures)
    (ap length c.as_slice.ensures) (omega (arith, c.as_slice-planned.type_inv)) c.saturating_add-begun.ensures
    c.saturating_sub.ensures c.try_from.ensures c.unwrap_or.ensures
