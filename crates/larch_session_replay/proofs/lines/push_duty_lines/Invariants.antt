use Rattle.std.proofs.Common.{◌≡◌, ◌++◌, map, take}
use Rattle.larch_prove.specs.State.{told_outcome}
use Rattle.larch_prove_meaning.specs.Reports.{line_for}
use Rattle.larch_session_blocks.specs.SessionMeaningTraits.{reported_line}
use Rattle.larch_session_replay.proofs.lines.push_duty_lines.Given as goal

-- the lines of the duties so far stand behind
abbrev pub invariant-loop-replayed : goal.invariant-loop-replayed
invariant-loop-replayed l =
    l.lines ≡ l.fn.lines ++ map (λ r. reported_line (line_for l.script r.claim.label (told_outcome r.outcome)))
    (take l.replayed-index l.replays)
