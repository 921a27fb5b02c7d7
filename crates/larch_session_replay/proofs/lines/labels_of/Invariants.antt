use Rattle.std.proofs.Common.{◌≡◌, map, take}
use Rattle.larch_session_replay.proofs.lines.labels_of.Given as goal

-- the labels of the duties so far
abbrev pub invariant-loop-replayed : goal.invariant-loop-replayed
invariant-loop-replayed l = l.labels ≡ map (λ r. r.claim.label) (take l.replayed-index l.replays)
