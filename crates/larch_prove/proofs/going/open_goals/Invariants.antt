use Rattle.std.proofs.Common.{◌≡◌, ◌+◌, take, sum_by}
use Rattle.larch_prove.proofs.going.open_goals.Given as goal
use Rattle.larch_prove.specs.State.{waiting_in}
use Rattle.larch_prove_meaning.specs.Replays.{told_number}

-- the goals of the current level, and those of the levels so far
abbrev pub invariant-loop-level : goal.invariant-loop-level
invariant-loop-level l =
    l.goals
    ≡ told_number
    (1 + (waiting_in l.draft.current
    + sum_by (λ level. waiting_in level.value) (take l.level-index l.draft.below.items)))
