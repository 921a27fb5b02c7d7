-- Lines of duties, and of their script behind them.
use Rattle.std.proofs.Common.{◌≡◌, refl, sym, ap, ap₂, ◌∙◌, List, [], ◌∷◌, ◌++◌, map}
use Rattle.std.proofs.lemmas.List.{append_assoc, map-append}
use Rattle.larch_base.specs.declared.label.Label.{Label}
use Rattle.larch_base.proofs.Lists.{map_map}
use Rattle.larch_prove.specs.State.{told_outcome}
use Rattle.larch_prove_meaning.specs.Reports.{Answered, TraitLine, line_for, script_lines}
use Rattle.larch_report.specs.declared.line.ReportLine.{ReportLine}
use Rattle.larch_script_commands.specs.declared.script.Script.{Script}
use Rattle.larch_session_blocks.specs.SessionMeaningTraits.{reported_line}
use Rattle.larch_session_replay.specs.Replayed.{answer_lines, answer_of}
use Rattle.larch_session_replay.specs.declared.replayed.Replayed.{Replayed}

pub lines_behind : (script : Script) (rs : List Replayed) (labels : List Label) (first second third : List ReportLine)
    → second ≡ first ++ map (λ r. reported_line (line_for script r.claim.label (told_outcome r.outcome))) rs
    → labels ≡ map (λ (r : Replayed). r.claim.label) rs
    → third ≡ second ++ map reported_line (script_lines labels [] script.blocks)
    → third ≡ first ++ map reported_line (answer_lines script (map answer_of rs))
lines_behind script rs labels first second third e l f =
    let line : Answered → TraitLine = λ a. line_for script a.duty.label a.outcome in
    let label : Answered → Label = λ a. a.duty.label in
    let own = map line (map answer_of rs) in
    let of_script = script_lines (map label (map answer_of rs)) [] script.blocks in
    let lines : map (λ r. reported_line (line_for script r.claim.label (told_outcome r.outcome))) rs
    ≡ map reported_line own =
    sym (ap (map reported_line) (map_map line answer_of rs) ∙ map_map reported_line (λ r. line (answer_of r)) rs) in
    let named : labels ≡ map label (map answer_of rs) = l ∙ sym (map_map label answer_of rs) in
    f ∙ ap₂ (λ xs ks. xs ++ map reported_line (script_lines ks [] script.blocks))
    (e ∙ ap (λ xs. first ++ xs) lines) named
    ∙ append_assoc first (map reported_line own) (map reported_line of_script)
    ∙ ap (λ xs. first ++ xs) (sym (map-append reported_line own of_script))
