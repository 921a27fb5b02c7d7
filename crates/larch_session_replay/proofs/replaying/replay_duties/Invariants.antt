use Rattle.std.proofs.Common.{◌≡◌, ◌≤◌, ◌+◌, map}
use Rattle.std.specs.Prelude.{sum_by}
use Rattle.larch_session_blocks.specs.SessionMeaningTraits.{script_duty}
use Rattle.larch_session_replay.proofs.Following.{Progress}
use Rattle.larch_session_replay.proofs.replaying.replay_duties.Given as goal
use Rattle.larch_session_sources.specs.Steps.{script_steps}

-- the duties so far were replayed, and each took no more steps than it may
abbrev pub invariant-loop-claim : goal.invariant-loop-claim
invariant-loop-claim g l =
    Progress l.limit l.script l.fn.claims l.claim-iterator.rest.items l.replays
    × ((l.steps ≡ l.fn.steps + sum_by (λ r. r.steps) l.replays)
    × (l.steps + script_steps l.script (map script_duty l.claim-iterator.rest.items)
    ≤ l.fn.steps + script_steps l.script (map script_duty l.fn.claims)))
