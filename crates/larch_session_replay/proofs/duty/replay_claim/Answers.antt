-- The opening of a duty, and its block behind that.
use Rattle.std.proofs.Common.{ap, sym, subst, ◌∙◌, All, map}
use Rattle.larch_prove_meaning.specs.Reports.{commands_in}
use Rattle.larch_prove_meaning.specs.Scripts.{block_of}
use Rattle.larch_prove.specs.ProveOpeningStating.{duties_of}
use Rattle.larch_script_commands.specs.Worded.{WordedCommand}
use Rattle.larch_session_blocks.specs.SessionMeaningTraits.{script_duty}
use Rattle.larch_session_replay.proofs.Following.{can_replay, reached, worded_block}
use Rattle.larch_session_replay.proofs.duty.replay_claim.Goals as goal
use Rattle.larch_session_replay.specs.Replayed.{answer_of}

pub begin-requires-clause-replays : goal.begin-requires-clause-replays
begin-requires-clause-replays g c =
    can_replay _ (script_duty c.args.claim.now) (map answer_of c.args.earlier.now) c.requires.follows
    (c.deref.ensures ∙ ap (λ x. x.theory) c.claim.view_is) (ap (λ x. x.statement) c.claim.view_is)
    (ap duties_of c.as_slice.ensures ∙ c.in_ok-lemmas.ensures)

pub carry_out-requires-clause-state : goal.carry_out-requires-clause-state
carry_out-requires-clause-state g c = (_, (_, c.in_ok-state.ensures.begun))

pub carry_out-requires-clause-worded : goal.carry_out-requires-clause-worded
carry_out-requires-clause-worded g c =
    subst (All WordedCommand) (sym c.commands_for.ensures)
    (worded_block c.args.script.now c.claim.inside.label c.requires.worded)

pub returns-clause-state : goal.returns-clause-state
returns-clause-state g c =
    reached c.args.limit c.args.script.now (map answer_of c.args.earlier.now) (script_duty c.args.claim.now) _ _ _ _ _
    c.in_ok-state.state c.carry_out.new.state (c.deref.ensures ∙ ap (λ x. x.theory) c.claim.view_is)
    (ap (λ x. x.statement) c.claim.view_is) (ap duties_of c.as_slice.ensures ∙ c.in_ok-lemmas.ensures)
    c.as_slice-2.ensures (c.commands_for.ensures ∙ ap (λ label. commands_in (block_of c.args.script.now label))
    (ap (λ x. x.label) c.claim.view_is)) c.in_ok-state.ensures.begun c.in_ok-taken.ensures.state
