-- With help, and without.
use Rattle.std.proofs.Common.{All, ap, ap₂, arith, subst, sym, ◌∙◌}
use Rattle.larch_prove_meaning.specs.Redo.{behind_common}
use Rattle.larch_prove_meaning.specs.Replays.{begun_with}
use Rattle.larch_prove_meaning.specs.Reports.{commands_in}
use Rattle.larch_prove_meaning.specs.Scripts.{block_of, commands_of}
use Rattle.larch_script_commands.specs.Worded.{WordedCommand, WordedScript}
use Rattle.larch_session_kept.proofs.Records.{help_redone, help_trail, if_ok, some_help}
use Rattle.larch_session_kept.proofs.trails.trail_for.Goals as goal
use Rattle.larch_session_kept.specs.Kept.{limit_in, replayed_of, task}
use Rattle.larch_session_replay.proofs.Following.{worded_block}
use Rattle.larch_session_trail.specs.ProveOpeningStating.{duties_of}
use Rattle.larch_session_trail.specs.Trail.{IsTrailOf}

pub resume-requires-clause-kept : goal.resume-requires-clause-kept
resume-requires-clause-kept g c =
    some_help c.args.replaying.now.before.now (task c.args.replaying.now.stem.now
    c.args.replaying.now.script.now.value c.args.claim.now (duties_of c.args.lemmas.now)) c.in-Some.kept.now
    c.in-Some.ensures.some

pub resume-requires-clause-worded : goal.resume-requires-clause-worded
resume-requires-clause-worded g c =
    subst (All WordedCommand) (sym c.commands_for-commands.ensures)
    (worded_block c.deref.result.now c.claim.inside.label
    (subst WordedScript (sym c.deref.ensures) c.requires.worded))

pub returns-in-Some-clause-trail : goal.returns-in-Some-clause-trail
returns-in-Some-clause-trail g c =
    let now = task c.args.replaying.now.stem.now c.args.replaying.now.script.now.value c.args.claim.now
    (duties_of c.args.lemmas.now) in
    let commands = c.commands_for-commands.ensures ∙ ap₂ (λ s label. commands_in (block_of s label)) c.deref.ensures
    (ap (λ x. x.label) c.claim.view_is) in
    if_ok _ _ c.resume.result
    (λ made f. subst (λ cs. IsTrailOf c.args.claim.now.statement (begun_with now.duty
    (limit_in c.args.replaying.now.before.now) now.preamble) (commands_of cs) made.0) commands
    (f c.args.claim.now.statement (begun_with now.duty (limit_in c.args.replaying.now.before.now) now.preamble)
    (help_trail c.args.replaying.now.before.now c.in-Some.kept.now c.args.replaying.now.stem.now
    c.args.replaying.now.script.now.value c.args.claim.now (duties_of c.args.lemmas.now) c.in-Some.ensures.some)))
    c.resume.ensures.trail

pub returns-in-Some-clause-most : goal.returns-in-Some-clause-most
returns-in-Some-clause-most g c =
    let now = task c.args.replaying.now.stem.now c.args.replaying.now.script.now.value c.args.claim.now
    (duties_of c.args.lemmas.now) in
    let most = c.resume.ensures.most in
    let redone = help_redone c.args.replaying.now.before.now now c.in-Some.kept.now c.in-Some.ensures.some in
    let commands = ap (λ cs. behind_common (replayed_of c.in-Some.kept.now).block (commands_of cs))
    (c.commands_for-commands.ensures ∙ ap₂ (λ s label. commands_in (block_of s label)) c.deref.ensures
    (ap (λ x. x.label) c.claim.view_is)) in
    omega (arith, most, redone, commands)

pub returns-in-None-clause-most : goal.returns-in-None-clause-most
returns-in-None-clause-most g c =
    let most = c.begin.ensures.most in
    let redone = c.in-None.ensures.none in
    omega (arith, most, redone)
