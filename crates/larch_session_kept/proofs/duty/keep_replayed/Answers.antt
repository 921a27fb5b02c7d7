-- With the lemmas that a duty has.
use Rattle.std.proofs.Common.{ap, arith, map, subst, ◌∙◌}
use Rattle.larch_session_blocks.specs.SessionMeaningTraits.{script_duty}
use Rattle.larch_session_kept.proofs.Records.{is_kept, redone_same, wanted_is}
use Rattle.larch_session_kept.proofs.duty.keep_replayed.Goals as goal
use Rattle.larch_session_kept.specs.Kept.{IsTrailFor, limit_in, task, task_behind}
use Rattle.larch_session_replay.specs.Replayed.{answer_of}
use Rattle.larch_session_trail.specs.ProveOpeningStating.{duties_of}

pub trail_for-requires-clause-begins : goal.trail_for-requires-clause-begins
trail_for-requires-clause-begins g c =
    record {
      earlier = map answer_of c.args.earlier.now;
      follows = c.requires.follows;
      are = ap duties_of c.as_slice.ensures ∙ c.in_ok-lemmas.ensures;
    }

pub returns-clause-replayed : goal.returns-clause-replayed
returns-clause-replayed g c =
    c.in_ok-kept.ensures.replayed ∙ wanted_is c.args.replaying.now.stem.now c.args.replaying.now.script.now.value
    c.args.claim.now (map answer_of c.args.earlier.now) (duties_of c.in_ok-lemmas.lemmas) c.in_ok-lemmas.ensures

pub returns-clause-kept : goal.returns-clause-kept
returns-clause-kept g c =
    is_kept (limit_in c.args.replaying.now.before.now) c.in_ok-kept.kept
    (task c.args.replaying.now.stem.now c.args.replaying.now.script.now.value c.args.claim.now
    (duties_of c.in_ok-lemmas.lemmas)) c.in_ok-trail.trail c.in_ok-kept.ensures.replayed c.in_ok-kept.ensures.trail
    (subst (λ lemmas. IsTrailFor (limit_in c.args.replaying.now.before.now)
    (task c.args.replaying.now.stem.now c.args.replaying.now.script.now.value c.args.claim.now (duties_of lemmas))
    c.in_ok-trail.trail) c.as_slice.ensures c.in_ok-trail.ensures.trail)

pub returns-clause-most : goal.returns-clause-most
returns-clause-most g c =
    let most = c.trail_for.ensures.most in
    let same = redone_same c.args.replaying.now.before.now
    (task c.args.replaying.now.stem.now c.args.replaying.now.script.now.value c.args.claim.now
    (duties_of c.as_slice.result.now))
    (task_behind c.args.replaying.now.stem.now c.args.replaying.now.script.now.value
    (map answer_of c.args.earlier.now) (script_duty c.args.claim.now))
    (wanted_is c.args.replaying.now.stem.now c.args.replaying.now.script.now.value c.args.claim.now
    (map answer_of c.args.earlier.now) (duties_of c.as_slice.result.now)
    (ap duties_of c.as_slice.ensures ∙ c.in_ok-lemmas.ensures)) in
    omega (arith, most, same)
