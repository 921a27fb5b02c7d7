-- The goals of the levels so far, and those of one more.
use Rattle.std.proofs.Common.{ap, ◌∙◌}
use Rattle.larch_prove.proofs.Waiting.{all_told, first_told, more_told}
use Rattle.larch_prove.proofs.going.open_goals.Goals as goal
use Rattle.larch_prove.specs.State.{waiting_in}
use Rattle.larch_prove_resuming.specs.ProveLevelsLevelLevel.{Level}
use Rattle.larch_prove_meaning.specs.Replays.{told_number}

pub loop-level-init : goal.loop-level-init
loop-level-init c =
    first_told (waiting_in c.args.draft.now.current) c.waiting_on.result c.saturating_add-goals.result
    c.waiting_on.ensures c.saturating_add-goals.ensures

pub loop-level-preserved : goal.loop-level-preserved
loop-level-preserved c =
    more_told c.args.draft.now.below.items c.deref-level-items.result.now (λ l. waiting_in l.value)
    (waiting_in c.args.draft.now.current) c.loop-level.level-index c.level-item.result c.loop-level.goals
    c.waiting_on-in-loop-level.result c.saturating_add-goals-in-loop-level.result c.deref-level-items.ensures.value
    c.level-item.is c.loop-level-test.true c.loop-level.invariant
    (c.waiting_on-in-loop-level.ensures ∙ ap (λ (l : Level). told_number (waiting_in l)) c.deref.ensures)
    c.saturating_add-goals-in-loop-level.ensures

pub returns : goal.returns
returns c =
    all_told c.args.draft.now c.deref-level-items.result.now c.loop-level.level-index c.loop-level.goals
    c.deref-level-items.ensures.value c.loop-level-test.false c.loop-level.invariant
