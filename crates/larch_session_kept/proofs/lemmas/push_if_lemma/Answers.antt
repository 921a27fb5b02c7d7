-- A duty that is a lemma, and one that is none.
use Rattle.std.proofs.Common.{ap, sym, ◌∙◌, ◌&&◌, ℕ, Option}
use Rattle.larch_session_trail.specs.ProveState.{told_outcome}
use Rattle.larch_prove_meaning.specs.Reports.{is_proved, may_serve}
use Rattle.larch_session_trail.specs.ProveOpeningStating.{duties_of}
use Rattle.larch_session_blocks.specs.SessionMeaningTraits.{script_duty}
use Rattle.larch_session_replay.proofs.Gathered.{lemma_first, on_ok, other_first}
use Rattle.larch_session_kept.proofs.lemmas.push_if_lemma.Goals as goal
use Rattle.larch_session_replay.specs.Replayed.{answer_of}

pub returns-then-not-may_be_lemma : goal.returns-then-not-may_be_lemma
returns-then-not-may_be_lemma c = λ rest.
    other_first (script_duty c.args.claim.now) (answer_of c.args.replayed.now) rest (duties_of c.args.lemmas.now)
    (sym (c.if-not-may_be_lemma.ensures
    ∙ ap (λ (k : Option ℕ). is_proved (told_outcome c.args.replayed.now.outcome)
    && may_serve c.args.replayed.now.claim.clause k)
    (ap (λ x. x.clause) c.claim.view_is)))

pub returns : goal.returns
returns c =
    on_ok c.push_lemma.result
    (λ put rest. lemma_first (script_duty c.args.claim.now) (answer_of c.args.replayed.now) rest
    (duties_of c.args.lemmas.now) (duties_of c.push_lemma.new.lemmas)
    (sym (c.if-not-may_be_lemma.ensures
    ∙ ap (λ (k : Option ℕ). is_proved (told_outcome c.args.replayed.now.outcome)
    && may_serve c.args.replayed.now.claim.clause k)
    (ap (λ x. x.clause) c.claim.view_is))) put)
    c.push_lemma.ensures
