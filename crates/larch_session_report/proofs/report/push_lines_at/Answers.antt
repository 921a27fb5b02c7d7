-- A trait that is right, and one that is wrong.
use Rattle.std.proofs.Common.{◌≡◌, All, Err, IfSome, [], ap, ap₂, arith, map, subst, sym, ◌∙◌, ◌∷◌, ◌++◌}
use Rattle.std.proofs.lemmas.List.{append-nil}
use Rattle.larch_session_replay.specs.DutiesTraitDuties.{trait_claims}
use Rattle.larch_session_replay.specs.FlatKnown.{stop_told}
use Rattle.larch_session_replay.specs.FlatMeaningStops.{Stop, Refused}
use Rattle.larch_session_replay.specs.FlatSourcesSources.{name_at}
use Rattle.larch_prove_meaning.specs.Redo.{redo}
use Rattle.larch_prove_meaning.specs.Reports.{all_answered}
use Rattle.larch_report.specs.declared.line.ReportLine.TheVariants.{Wrong as wrong_line}
use Rattle.larch_session_kept.specs.Kept.{records_in}
use Rattle.larch_session_report.proofs.Strays.{on_ok}
use Rattle.larch_session_replay.proofs.SessionSourcesTold.{none_justified, own_justified}
use Rattle.larch_session_report.proofs.Redone.{claimed_replayed, wrong_replayed}
use Rattle.larch_session_report.proofs.report.push_lines_at.Goals as goal
use Rattle.larch_sorts_meaning.specs.Faults.{fault}
use Rattle.larch_session_replay.proofs.SessionLawClaimed.{are_claims}
use Rattle.larch_session_replay.specs.SessionLawCertified.{IsJustified}
use Rattle.larch_session_replay.specs.SessionMeaningFiles.{script_among}
use Rattle.larch_session_replay.specs.SessionMeaningTraits.{script_duty, trait_report}

pub push_claimed_lines-requires-clause-claims : goal.push_claimed_lines-requires-clause-claims
push_claimed_lines-requires-clause-claims g c =
    are_claims c.args.looked.now.files.now (name_at c.args.looked.now.sources.now c.args.number) c.in-Ok.claims
    (sym (ap (λ s. trait_claims s (name_at c.args.looked.now.sources.now c.args.number)) c.requires.read.read)
    ∙ c.in-Ok.ensures)

pub returns-in-Ok-clause-lines : goal.returns-in-Ok-clause-lines
returns-in-Ok-clause-lines g c =
    on_ok c.push_claimed_lines.result
    (λ put. put ∙ ap₂ (λ n r. c.args.report.now.lines
    ++ trait_report c.args.looked.now.limit (script_among c.args.looked.now.files.now n) n r) c.name-stem.ensures
    (sym c.in-Ok.ensures))
    c.push_claimed_lines.ensures.lines

pub returns-in-Ok-clause-proved : goal.returns-in-Ok-clause-proved
returns-in-Ok-clause-proved g c =
    on_ok c.push_claimed_lines.result
    (λ h. own_justified c.args.looked.now.limit c.args.looked.now.files.now c.args.looked.now.sources.now
    (name_at c.args.looked.now.sources.now c.args.number) c.in-Ok.claims c.requires.read.read c.in-Ok.ensures
    (subst (λ n. All IsJustified (all_answered c.args.looked.now.limit (script_among c.args.looked.now.files.now n) [] 1
    (map script_duty c.in-Ok.claims))) c.name-stem.ensures h))
    c.push_claimed_lines.ensures.proved

pub returns-in-Ok-clause-base : goal.returns-in-Ok-clause-base
returns-in-Ok-clause-base g c =
    on_ok c.push_claimed_lines.result
    (λ put. put ∙ ap (λ rs. records_in c.args.report.now.base ++ rs) (claimed_replayed c.args.looked.now.limit
    c.args.looked.now.files.now c.args.looked.now.sources.now (name_at c.args.looked.now.sources.now c.args.number)
    c.name-stem.result.now c.in-Ok.claims c.name-stem.ensures c.in-Ok.ensures))
    c.push_claimed_lines.ensures.base

pub returns-in-Ok-clause-most : goal.returns-in-Ok-clause-most
returns-in-Ok-clause-most g c =
    let most = c.push_claimed_lines.ensures.most in
    let same = ap (redo (records_in c.args.before.now)) (claimed_replayed c.args.looked.now.limit
    c.args.looked.now.files.now c.args.looked.now.sources.now (name_at c.args.looked.now.sources.now c.args.number)
    c.name-stem.result.now c.in-Ok.claims c.name-stem.ensures c.in-Ok.ensures) in
    omega (arith, most, same)

pub returns-in-Err-Wrong-clause-base : goal.returns-in-Err-Wrong-clause-base
returns-in-Err-Wrong-clause-base g c =
    let stop : trait_claims c.args.looked.now.sources.now (name_at c.args.looked.now.sources.now c.args.number)
    ≡ Err (Refused (fault c.in-Err-Wrong.code c.in-Err-Wrong.pos)) =
    subst (λ r. IfSome (stop_told r) (λ (s : Stop). trait_claims c.args.looked.now.sources.now
    (name_at c.args.looked.now.sources.now c.args.number) ≡ Err s)) c.in-Err-Wrong.field-0-is c.in-Err-Wrong.ensures in
    on_ok c.push_wrong_line.result
    (λ put. sym (append-nil (records_in c.args.report.now.base))
    ∙ ap (λ rs. records_in c.args.report.now.base ++ rs) (sym (wrong_replayed c.args.looked.now.limit
    c.args.looked.now.files.now c.args.looked.now.sources.now (name_at c.args.looked.now.sources.now c.args.number)
    (Refused (fault c.in-Err-Wrong.code c.in-Err-Wrong.pos)) stop)))
    c.push_wrong_line.ensures.lines

pub returns-in-Err-Wrong-clause-lines : goal.returns-in-Err-Wrong-clause-lines
returns-in-Err-Wrong-clause-lines g c =
    let stop : trait_claims c.args.looked.now.sources.now (name_at c.args.looked.now.sources.now c.args.number)
    ≡ Err (Refused (fault c.in-Err-Wrong.code c.in-Err-Wrong.pos)) =
    subst (λ r. IfSome (stop_told r) (λ (s : Stop). trait_claims c.args.looked.now.sources.now
    (name_at c.args.looked.now.sources.now c.args.number) ≡ Err s)) c.in-Err-Wrong.field-0-is c.in-Err-Wrong.ensures in
    on_ok c.push_wrong_line.result
    (λ put. put ∙ ap₂ (λ p k. c.args.report.now.lines ++ wrong_line c.name-stem.result.now (fault k p) ∷ [])
    c.in-Err-Wrong.pos-is c.in-Err-Wrong.code-is
    ∙ ap₂ (λ n r. c.args.report.now.lines
    ++ trait_report c.args.looked.now.limit (script_among c.args.looked.now.files.now n) n r) c.name-stem.ensures
    (sym stop))
    c.push_wrong_line.ensures.lines

pub returns-in-Err-Wrong-clause-proved : goal.returns-in-Err-Wrong-clause-proved
returns-in-Err-Wrong-clause-proved g c =
    let stop : trait_claims c.args.looked.now.sources.now (name_at c.args.looked.now.sources.now c.args.number)
    ≡ Err (Refused (fault c.in-Err-Wrong.code c.in-Err-Wrong.pos)) =
    subst (λ r. IfSome (stop_told r) (λ (s : Stop). trait_claims c.args.looked.now.sources.now
    (name_at c.args.looked.now.sources.now c.args.number) ≡ Err s)) c.in-Err-Wrong.field-0-is c.in-Err-Wrong.ensures in
    on_ok c.push_wrong_line.result
    (λ put. none_justified c.args.looked.now.limit c.args.looked.now.files.now c.args.looked.now.sources.now
    (name_at c.args.looked.now.sources.now c.args.number) (Refused (fault c.in-Err-Wrong.code c.in-Err-Wrong.pos))
    c.requires.read.read stop)
    c.push_wrong_line.ensures.lines
