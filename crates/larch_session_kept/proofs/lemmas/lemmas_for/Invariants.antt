use Rattle.std.proofs.Common.{◌≡◌, ◌++◌, drop, map}
use Rattle.larch_prove_meaning.specs.Reports.{lemmas_for}
use Rattle.larch_session_trail.specs.ProveOpeningStating.{duties_of}
use Rattle.larch_session_blocks.specs.SessionMeaningTraits.{script_duty}
use Rattle.larch_session_kept.proofs.lemmas.lemmas_for.Given as goal
use Rattle.larch_session_replay.specs.Replayed.{answer_of}

-- the lemmas so far, and those among the duties that are left, are all
abbrev pub invariant-loop-replayed : goal.invariant-loop-replayed
invariant-loop-replayed l =
    duties_of l.lemmas ++ lemmas_for (script_duty l.claim) (map answer_of (drop l.replayed-index l.earlier))
    ≡ lemmas_for (script_duty l.claim) (map answer_of l.earlier)
