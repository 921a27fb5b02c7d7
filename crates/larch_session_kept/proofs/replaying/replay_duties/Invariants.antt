use Rattle.std.proofs.Common.{◌≡◌, ◌+◌}
use Rattle.std.specs.Prelude.{sum_by}
use Rattle.larch_session_kept.proofs.Wanted.{Keeping}
use Rattle.larch_session_kept.proofs.replaying.replay_duties.Given as goal
use Rattle.larch_session_kept.specs.Kept.{limit_in, records_in}
use Rattle.larch_session_replay.proofs.Following.{Progress}

-- the duties so far were replayed, each in no more steps than it may, and records of them are kept
abbrev pub invariant-loop-claim : goal.invariant-loop-claim
invariant-loop-claim g l =
    Progress (limit_in l.replaying.before.now) l.replaying.script.now.value l.fn.claims l.claim-iterator.rest.items
    l.replays
    × (Keeping (limit_in l.replaying.before.now) l.replaying.stem.now l.replaying.script.now.value
    l.replaying.before.now (records_in l.fn.base) l.fn.claims l.replays l.claim-iterator.rest.items
    (records_in l.base) l.fn.steps l.steps
    × ((limit_in l.base ≡ limit_in l.fn.base) × (l.steps ≡ l.fn.steps + sum_by (λ r. r.steps) l.replays)))
