use Rattle.std.proofs.Common.{◌-◌, ◌^◌, ◌≡◌, ◌∷◌, ◌++◌, ◌∙◌, [], List, ap, arith, map, min, refl, sym}
use Rattle.std.specs.Prelude.{sum_by}
use Rattle.std.proofs.lemmas.List.{append_assoc}
use Rattle.larch_report.specs.declared.line.ReportLine.TheVariants.{Right as right_line}
use Rattle.larch_session_kept.specs.Kept.{limit_in}
use Rattle.larch_session_report.proofs.Right.{right_justified, right_lines}
use Rattle.larch_session_report.proofs.report.push_right_lines.Goals as goal
use Rattle.larch_session_replay.specs.SessionMeaningTraits.{reported_line}
use Rattle.larch_session_replay.specs.Replayed.{answer_lines, answer_of}
use Rattle.larch_session_replay.specs.declared.replayed.Replayed.{Replayed}

pub returns-clause-lines : goal.returns-clause-lines
returns-clause-lines g c =
    let script = c.args.replaying.now.script.now.value in
    let stem = c.args.replaying.now.stem.now in
    let lines = c.args.report.now.lines in
    let told = map reported_line (answer_lines script (map answer_of c.in_ok-replays.replays)) in
    right_lines (limit_in c.args.replaying.now.before.now) script stem c.args.claims c.in_ok-replays.replays lines
    (lines ++ right_line stem ∷ []) c.push_replayed_lines.new.lines c.in_ok-replays.ensures.answers refl
    (c.in_ok-push_replayed_lines.ensures ∙ ap (λ (rs : List Replayed). lines
    ++ right_line stem ∷ map reported_line (answer_lines script (map answer_of rs))) c.as_slice.ensures
    ∙ sym (append_assoc lines (right_line stem ∷ []) told))

pub returns-clause-proved : goal.returns-clause-proved
returns-clause-proved g c =
    right_justified (limit_in c.args.replaying.now.before.now) c.args.replaying.now.script.now.value c.args.claims
    c.in_ok-replays.replays c.requires.claims c.in_ok-replays.ensures.answers c.in_ok-replays.ensures.replays

pub returns-clause-work : goal.returns-clause-work
returns-clause-work g c =
    let taken = c.in_ok-replays.ensures.taken in
    let sum : sum_by (λ (r : Replayed). r.steps) c.in_ok-replays.replays
    ≡ c.replay_duties.new.steps - c.args.steps.now = omega (arith, taken) in
    c.steps_of.ensures
    ∙ ap (λ n. min n (2 ^ 64 - 1)) (ap (sum_by (λ (r : Replayed). r.steps)) c.as_slice-2.ensures ∙ sum)
