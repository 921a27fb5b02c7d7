use Rattle.std.proofs.Common.{ap, ap₂, map, ◌∙◌, ◌++◌, ◌∷◌, []}
use Rattle.std.proofs.lemmas.List.{append_assoc}
use Rattle.larch_report.specs.declared.line.ReportLine.TheVariants.{Right as right_line}
use Rattle.larch_session_report.proofs.Strays.{on_ok}
use Rattle.larch_session_report.proofs.report.push_replayed_lines.Goals as goal
use Rattle.larch_session_replay.specs.SessionMeaningTraits.{reported_line}
use Rattle.larch_session_replay.specs.Replayed.{answer_lines, answer_of}

pub returns : goal.returns
returns c =
    let lines = c.args.lines.now in
    on_ok c.push_trait_lines.result
    (λ put. put ∙ ap₂ (λ xs s. xs ++ map reported_line (answer_lines s (map answer_of c.args.replays.now)))
    (c.in_ok-push.ensures.ok ∙ ap (λ n. lines ++ right_line n ∷ []) c.in_ok-name.ensures) c.deref.ensures
    ∙ append_assoc lines (right_line c.args.replaying.now.stem.now ∷ []) (map reported_line
    (answer_lines c.args.replaying.now.script.now.value (map answer_of c.args.replays.now))))
    c.push_trait_lines.ensures
