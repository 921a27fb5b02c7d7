-- The opening of a duty, and its block behind that.
use Rattle.std.proofs.Common.{All, ap, ap₂, refl, sym, subst, ◌∙◌}
use Rattle.larch_prove_meaning.specs.Reports.{commands_in}
use Rattle.larch_prove_meaning.specs.Scripts.{block_of}
use Rattle.larch_script_commands.specs.Worded.{WordedCommand, WordedScript}
use Rattle.larch_session_blocks.specs.SessionMeaningTraits.{script_duty}
use Rattle.larch_session_kept.proofs.Records.{can_begin, opened}
use Rattle.larch_session_kept.proofs.trails.begin.Goals as goal
use Rattle.larch_session_kept.specs.Kept.{limit_in}
use Rattle.larch_session_replay.proofs.Following.{worded_block}
use Rattle.larch_session_trail.specs.ProveOpeningStating.{duties_of}

pub begin-requires-clause-replays : goal.begin-requires-clause-replays
begin-requires-clause-replays g c =
    can_begin _ (script_duty c.args.claim.now) (duties_of c.args.lemmas.now) c.requires.begins
    (c.deref.ensures ∙ ap (λ x. x.theory) c.claim.view_is) (ap (λ x. x.statement) c.claim.view_is) refl

pub go_on-requires-clause-some : goal.go_on-requires-clause-some
go_on-requires-clause-some g c = c.in_ok-trail.ensures.some

pub go_on-requires-clause-worded : goal.go_on-requires-clause-worded
go_on-requires-clause-worded g c =
    subst (All WordedCommand) (sym c.commands_for-commands.ensures)
    (worded_block c.deref-3.result.now c.claim.inside.label
    (subst WordedScript (sym c.deref-3.ensures) c.requires.worded))

pub returns-clause-trail : goal.returns-clause-trail
returns-clause-trail g c =
    opened (limit_in c.args.replaying.now.before.now) c.args.replaying.now.stem.now
    c.args.replaying.now.script.now.value c.args.claim.now (duties_of c.args.lemmas.now) _ _ _ _ _ _
    c.in_ok-trail.trail c.go_on.new.self (c.deref.ensures ∙ ap (λ x. x.theory) c.claim.view_is)
    (ap (λ x. x.statement) c.claim.view_is) refl c.limit.ensures
    (c.as_slice-preamble.ensures ∙ ap (λ s. s.preamble) c.deref-2.ensures)
    (c.commands_for-commands.ensures ∙ ap₂ (λ s label. commands_in (block_of s label)) c.deref-3.ensures
    (ap (λ x. x.label) c.claim.view_is))
    c.in_ok-trail.ensures.begun c.in_ok-go_on.ensures.states
