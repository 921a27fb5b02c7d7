-- Duty by duty.
use Rattle.std.proofs.Common.{ap, sym, ◌∙◌, ◌+◌, ◌++◌, drop, map}
use Rattle.std.proofs.lemmas.List.{append-nil, drop_all}
use Rattle.larch_prove_meaning.specs.Reports.{lemmas_for}
use Rattle.larch_session_trail.specs.ProveOpeningStating.{duties_of}
use Rattle.larch_session_blocks.specs.SessionMeaningTraits.{script_duty}
use Rattle.larch_session_replay.proofs.Gathered.{drop_item}
use Rattle.larch_session_kept.proofs.lemmas.lemmas_for.Goals as goal
use Rattle.larch_session_replay.specs.Replayed.{answer_of}

pub loop-replayed-preserved : goal.loop-replayed-preserved
loop-replayed-preserved c =
    c.in_ok-push_if_lemma.ensures (map answer_of (drop (c.loop-replayed.replayed-index + 1) c.args.earlier.now))
    ∙ sym (ap (λ rs. duties_of c.loop-replayed.lemmas ++ lemmas_for (script_duty c.args.claim.now) (map answer_of rs))
    (drop_item c.args.earlier.now c.loop-replayed.replayed-index c.replayed-item.result c.loop-replayed-test.true
    c.replayed-item.is))
    ∙ c.loop-replayed.invariant

pub returns : goal.returns
returns c =
    sym (append-nil (duties_of c.loop-replayed.lemmas))
    ∙ sym (ap (λ rs. duties_of c.loop-replayed.lemmas ++ lemmas_for (script_duty c.args.claim.now) (map answer_of rs))
    (drop_all c.loop-replayed.replayed-index c.args.earlier.now c.loop-replayed-test.false))
    ∙ c.loop-replayed.invariant
