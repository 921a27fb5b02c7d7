use Rattle.std.proofs.Common.{map}
use Rattle.larch_prove_meaning.specs.Replays.{begun_with}
use Rattle.larch_session_blocks.specs.SessionMeaningTraits.{script_duty}
use Rattle.larch_session_kept.proofs.Records.{is_replayed}
use Rattle.larch_session_kept.proofs.duty.replay_duty.Goals as goal
use Rattle.larch_session_kept.specs.Kept.{limit_in, task_behind}
use Rattle.larch_session_replay.specs.Replayed.{answer_of}

pub returns-clause-replay : goal.returns-clause-replay
returns-clause-replay g c =
    let limit = limit_in c.args.replaying.now.before.now in
    let now = task_behind c.args.replaying.now.stem.now c.args.replaying.now.script.now.value
    (map answer_of c.args.earlier.now) (script_duty c.args.claim) in
    let answer = begun_with now.duty limit now.preamble in
    let state = c.in_ok-state.ensures c.args.claim.statement _
    (c.last.ensures c.args.claim.statement answer now.block
    (is_replayed limit c.in_ok-kept.kept now c.in_ok-kept.ensures.replayed c.in_ok-kept.ensures.kept)) in
    record { state = state; outcome = c.in_ok-outcome.ensures c.args.claim.statement _ state }
