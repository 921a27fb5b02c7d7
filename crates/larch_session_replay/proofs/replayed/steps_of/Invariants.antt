use Rattle.std.proofs.Common.{◌≡◌, ◌-◌, ◌^◌, min, take}
use Rattle.std.specs.Prelude.{sum_by}
use Rattle.larch_session_replay.proofs.replayed.steps_of.Given as goal

-- the steps of the duties so far, up to the last number
abbrev pub invariant-loop-replayed : goal.invariant-loop-replayed
invariant-loop-replayed l = l.taken ≡ min (sum_by (λ r. r.steps) (take l.replayed-index l.replays)) (2 ^ 64 - 1)
