use Rattle.std.proofs.Common.{◌≡◌, ◌≤◌, ◌+◌, ◌-◌, ◌++◌, ◌^◌, All, drop, flat_map, min, take}
use Rattle.larch_session_replay.specs.DutiesTraitDuties.{trait_claims}
use Rattle.larch_prove_meaning.specs.Redo.{redo}
use Rattle.larch_session_kept.specs.Kept.{limit_in, records_in}
use Rattle.larch_session_report.proofs.report.push_source_lines.Given as goal
use Rattle.larch_session_replay.specs.SessionSourcesJustified.{AreJustified}
use Rattle.larch_session_replay.specs.SessionMeaningFiles.{script_among, source_lines}
use Rattle.larch_session_replay.specs.SessionMeaningRedone.{replayed_for_trait, replayed_in}
use Rattle.larch_session_replay.specs.SessionMeaningTraits.{trait_report}

-- The lines so far, and those of the traits that are left, are all, and so are the records; what was replayed so far
-- shows what it should, and took no more steps than it may.
abbrev pub invariant-loop-number : goal.invariant-loop-number
invariant-loop-number g l =
    (l.report.lines ++ flat_map (λ source. trait_report l.looked.limit (script_among l.looked.files.now source.0)
    source.0 (trait_claims l.looked.sources.now source.0)) (drop l.number l.looked.sources.now)
    ≡ l.fn.report.lines ++ source_lines l.looked.limit l.looked.files.now l.looked.sources.now)
    × (All (λ source. AreJustified l.looked.limit l.looked.files.now source.0) (take l.number l.looked.sources.now)
    × ((l.work ≡ min (l.steps - l.fn.steps) (2 ^ 64 - 1))
    × ((l.fn.steps ≤ l.steps)
    × ((l.steps + redo (records_in l.before) (flat_map (λ source. replayed_for_trait l.looked.limit
    (script_among l.looked.files.now source.0) source.0 (trait_claims l.looked.sources.now source.0))
    (drop l.number l.looked.sources.now))
    ≤ l.fn.steps + redo (records_in l.before) (replayed_in l.looked.limit l.looked.files.now l.looked.sources.now))
    × ((limit_in l.report.base ≡ limit_in l.fn.report.base)
    × (records_in l.report.base ++ flat_map (λ source. replayed_for_trait l.looked.limit
    (script_among l.looked.files.now source.0) source.0 (trait_claims l.looked.sources.now source.0))
    (drop l.number l.looked.sources.now)
    ≡ records_in l.fn.report.base ++ replayed_in l.looked.limit l.looked.files.now l.looked.sources.now))))))
