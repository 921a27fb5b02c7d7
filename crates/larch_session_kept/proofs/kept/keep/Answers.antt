use Rattle.std.proofs.Common.{ap, ◌∙◌}
use Rattle.larch_session_kept.proofs.Records.{record_is}
use Rattle.larch_session_kept.proofs.kept.keep.Goals as goal
use Rattle.larch_session_kept.specs.Kept.{task}
use Rattle.larch_session_trail.specs.ProveOpeningStating.{duties_of}

pub returns-clause-replayed : goal.returns-clause-replayed
returns-clause-replayed c =
    record_is c.in_ok-stem.stem c.args.replaying.now.stem.now c.claim.inside.label c.in_ok-theory.theory.value
    c.claim.inside.theory.value c.in_ok-statement.statement c.claim.inside.statement (duties_of c.args.lemmas)
    c.in_ok-script.script.value c.args.replaying.now.script.now.value c.in_ok-stem.ensures
    c.in_ok-theory.ensures.cases c.in_ok-statement.ensures c.in_ok-script.ensures.cases
    ∙ ap (λ claim. task c.args.replaying.now.stem.now c.args.replaying.now.script.now.value claim
    (duties_of c.args.lemmas)) c.claim.view_is
