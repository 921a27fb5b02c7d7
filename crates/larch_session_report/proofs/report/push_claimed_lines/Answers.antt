-- The script among the files is the one that is handed on.
use Rattle.std.proofs.Common.{All, Ok, [], ap, ap₂, arith, map, subst, sym, ◌∙◌, ◌++◌}
use Rattle.larch_prove_meaning.specs.Redo.{redo, trait_replayed}
use Rattle.larch_prove_meaning.specs.Reports.{all_answered}
use Rattle.larch_script_commands.specs.Worded.{WordedScript}
use Rattle.larch_session_kept.specs.Kept.{records_in}
use Rattle.larch_session_replay.proofs.SessionSourcesAmong.{among_worded}
use Rattle.larch_session_report.proofs.Strays.{on_ok}
use Rattle.larch_session_report.proofs.report.push_claimed_lines.Goals as goal
use Rattle.larch_session_replay.specs.SessionLawCertified.{IsJustified}
use Rattle.larch_session_replay.specs.SessionMeaningFiles.{script_among}
use Rattle.larch_session_replay.specs.SessionMeaningTraits.{script_duty, trait_report}

pub push_right_lines-requires-clause-worded : goal.push_right_lines-requires-clause-worded
push_right_lines-requires-clause-worded g c =
    subst WordedScript (sym (c.in_ok-script-2.ensures.ok ∙ c.in_ok-script.ensures))
    (among_worded c.args.looked.now.files.now c.bytes.result.now)

pub returns-clause-lines : goal.returns-clause-lines
returns-clause-lines g c =
    let same = c.in_ok-script-2.ensures.ok ∙ c.in_ok-script.ensures
    ∙ ap (script_among c.args.looked.now.files.now) c.bytes.ensures in
    on_ok c.push_right_lines.result
    (λ put. put ∙ ap₂ (λ limit s. c.args.report.now.lines
    ++ trait_report limit s c.args.named.now.stem.now (Ok c.args.claims)) (sym c.requires.limit.0) same)
    c.push_right_lines.ensures.lines

pub returns-clause-base : goal.returns-clause-base
returns-clause-base g c =
    let same = c.in_ok-script-2.ensures.ok ∙ c.in_ok-script.ensures
    ∙ ap (script_among c.args.looked.now.files.now) c.bytes.ensures in
    on_ok c.push_right_lines.result
    (λ put. put ∙ ap₂ (λ limit s. records_in c.args.report.now.base
    ++ trait_replayed limit c.args.named.now.stem.now s (map script_duty c.args.claims)) (sym c.requires.limit.0) same)
    c.push_right_lines.ensures.base

pub returns-clause-proved : goal.returns-clause-proved
returns-clause-proved g c =
    let same = c.in_ok-script-2.ensures.ok ∙ c.in_ok-script.ensures
    ∙ ap (script_among c.args.looked.now.files.now) c.bytes.ensures in
    on_ok c.push_right_lines.result
    (λ h. subst (λ s. All IsJustified (all_answered c.args.looked.now.limit s [] 1 (map script_duty c.args.claims)))
    same (subst (λ limit. All IsJustified (all_answered limit c.in_ok-script-2.script.value [] 1
    (map script_duty c.args.claims))) (sym c.requires.limit.0) h))
    c.push_right_lines.ensures.proved

pub returns-clause-most : goal.returns-clause-most
returns-clause-most g c =
    let same = ap₂ (λ limit s. redo (records_in c.args.named.now.before.now)
    (trait_replayed limit c.args.named.now.stem.now s (map script_duty c.args.claims))) (sym c.requires.limit.0)
    (c.in_ok-script-2.ensures.ok ∙ c.in_ok-script.ensures
    ∙ ap (script_among c.args.looked.now.files.now) c.bytes.ensures) in
    let most = c.push_right_lines.ensures.most in
    omega (arith, most, same)
