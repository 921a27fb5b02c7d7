use Rattle.std.proofs.Common.{ap, ◌∙◌, ◌++◌, [], map}
use Rattle.larch_prove_meaning.specs.Reports.{script_lines}
use Rattle.larch_session_blocks.specs.SessionMeaningTraits.{reported_line}
use Rattle.larch_session_replay.proofs.Gathered.{on_ok}
use Rattle.larch_session_replay.proofs.Told.{lines_behind}
use Rattle.larch_session_replay.proofs.lines.push_trait_lines.Goals as goal

pub returns : goal.returns
returns c =
    on_ok c.push_script_lines.result
    (λ put. lines_behind c.args.script.now c.args.replays.now c.as_slice.result.now c.args.lines.now
    c.push_duty_lines.new.lines c.push_script_lines.new.lines c.in_ok-push_duty_lines.ensures
    (c.as_slice.ensures ∙ c.in_ok-labels.ensures)
    (put ∙ ap (λ blocks. c.push_duty_lines.new.lines
    ++ map reported_line (script_lines c.as_slice.result.now [] blocks)) c.as_slice-2.ensures))
    c.push_script_lines.ensures
