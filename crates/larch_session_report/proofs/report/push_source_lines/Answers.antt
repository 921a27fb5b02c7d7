-- Trait by trait.
use Rattle.std.proofs.Common.{◌∙◌, ◌<◌, ◌≤◌, ◌-◌, ◌^◌, ◌++◌, All, ap, arith, flat_map, length}
use Rattle.std.proofs.Common.{refl, subst, sym}
use Rattle.std.proofs.lemmas.List.{append-nil, drop_all, take_all}
use Rattle.std.proofs.lemmas.List.Elements.{All-nil}
use Rattle.larch_session_replay.specs.DutiesTraitDuties.{trait_claims}
use Rattle.larch_prove_meaning.specs.Redo.{redo}
use Rattle.larch_session_kept.specs.Kept.{records_in}
use Rattle.larch_session_replay.proofs.SessionSourcesTold.{added_up, all_replayed, le_same}
use Rattle.larch_session_replay.proofs.SessionSourcesTold.{next_justified, next_lines}
use Rattle.larch_session_report.proofs.Redone.{next_records, next_redone}
use Rattle.larch_session_report.proofs.report.push_source_lines.Goals as goal
use Rattle.larch_session_replay.specs.SessionSourcesJustified.{AreJustified}
use Rattle.larch_session_replay.specs.SessionMeaningFiles.{script_among}
use Rattle.larch_session_replay.specs.SessionMeaningRedone.{replayed_for_trait}
use Rattle.larch_session_replay.specs.SessionMeaningTraits.{trait_report}

pub loop-number-init : goal.loop-number-init
loop-number-init g c = (
  refl,
  (
    All-nil (λ source. AreJustified c.args.looked.now.limit c.args.looked.now.files.now source.0),
    (omega arith, (omega arith, (le_same _ _ refl, (refl, refl)))),
  ),
)

pub loop-number-preserved : goal.loop-number-preserved
loop-number-preserved g c =
    let i = c.loop-number.invariant in
    let told = c.in_ok-taken.ensures in
    let limit = c.args.looked.now.limit in
    let files = c.args.looked.now.files.now in
    let sources = c.args.looked.now.sources.now in
    let number = c.loop-number.number in
    let before = records_in c.args.before.now in
    let test = c.loop-number-test.true in
    let len = c.len-number-end.ensures.len in
    let high = c.loop-number.auto.number-end in
    let lt : number < length sources = omega (arith, test, len, high) in
    let least = c.push_lines_at.ensures.least in
    let so_far = i.1.1.1.0 in (
      next_lines limit files sources sources number c.loop-number.report.lines c.push_lines_at.new.report.lines _ lt
          told.lines i.0,
      (
        next_justified limit files sources number lt i.1.0 told.proved,
        (
          c.saturating_add-work.ensures
              ∙ added_up (2 ^ 64 - 1) c.loop-number.work c.in_ok-taken.taken c.args.steps.now c.loop-number.steps
              c.push_lines_at.new.steps i.1.1.0 told.work so_far least,
          (
            omega (arith, so_far, least),
            (
              next_redone limit files before sources sources number c.loop-number.steps c.push_lines_at.new.steps _ lt
                  c.push_lines_at.ensures.most i.1.1.1.1.0,
              (
                c.push_lines_at.ensures.limit ∙ i.1.1.1.1.1.0,
                next_records limit files before sources sources number (records_in c.loop-number.report.base)
                    (records_in c.push_lines_at.new.report.base) _ lt told.base i.1.1.1.1.1.1,
              ),
            ),
          ),
        ),
      ),
    )

pub push_lines_at-requires-clause-limit : goal.push_lines_at-requires-clause-limit
push_lines_at-requires-clause-limit g c =
    (c.requires.limit.0, c.loop-number.invariant.1.1.1.1.1.0 ∙ c.requires.limit.1)

pub returns-clause-lines : goal.returns-clause-lines
returns-clause-lines g c =
    let test = c.loop-number-test.false in
    let len = c.len-number-end.ensures.len in
    let past : length c.args.looked.now.sources.now ≤ c.loop-number.number = omega (arith, test, len) in
    sym (append-nil c.loop-number.report.lines)
    ∙ sym (ap (λ ss. c.loop-number.report.lines ++ flat_map (λ source. trait_report c.args.looked.now.limit
    (script_among c.args.looked.now.files.now source.0) source.0 (trait_claims c.args.looked.now.sources.now source.0))
    ss) (drop_all c.loop-number.number c.args.looked.now.sources.now past))
    ∙ c.loop-number.invariant.0

pub returns-clause-limit : goal.returns-clause-limit
returns-clause-limit g c = c.loop-number.invariant.1.1.1.1.1.0

pub returns-clause-base : goal.returns-clause-base
returns-clause-base g c =
    let test = c.loop-number-test.false in
    let len = c.len-number-end.ensures.len in
    let past : length c.args.looked.now.sources.now ≤ c.loop-number.number = omega (arith, test, len) in
    sym (append-nil (records_in c.loop-number.report.base))
    ∙ sym (ap (λ ss. records_in c.loop-number.report.base ++ flat_map (λ source. replayed_for_trait
    c.args.looked.now.limit (script_among c.args.looked.now.files.now source.0) source.0
    (trait_claims c.args.looked.now.sources.now source.0)) ss)
    (drop_all c.loop-number.number c.args.looked.now.sources.now past))
    ∙ c.loop-number.invariant.1.1.1.1.1.1
    ∙ ap (λ rs. records_in c.args.report.now.base ++ rs) (all_replayed c.args.looked.now.limit
    c.args.looked.now.files.now c.args.looked.now.sources.now c.requires.read.read)

pub returns-clause-proved : goal.returns-clause-proved
returns-clause-proved g c =
    let test = c.loop-number-test.false in
    let len = c.len-number-end.ensures.len in
    let past : length c.args.looked.now.sources.now ≤ c.loop-number.number = omega (arith, test, len) in
    subst (All (λ source. AreJustified c.args.looked.now.limit c.args.looked.now.files.now source.0))
    (take_all c.loop-number.number c.args.looked.now.sources.now past)
    c.loop-number.invariant.1.0

pub returns-clause-most : goal.returns-clause-most
returns-clause-most g c =
    let so_far = c.loop-number.invariant.1.1.1.1.0 in
    let same = ap (redo (records_in c.args.before.now)) (all_replayed c.args.looked.now.limit
    c.args.looked.now.files.now c.args.looked.now.sources.now c.requires.read.read) in
    omega (arith, so_far, same)

pub returns-in_err-taken-clause-limit : goal.returns-in_err-taken-clause-limit
returns-in_err-taken-clause-limit g c = c.push_lines_at.ensures.limit ∙ c.loop-number.invariant.1.1.1.1.1.0

pub returns-in_err-taken-clause-least : goal.returns-in_err-taken-clause-least
returns-in_err-taken-clause-least g c =
    let so_far = c.loop-number.invariant.1.1.1.0 in
    let least = c.push_lines_at.ensures.least in
    omega (arith, so_far, least)

pub returns-in_err-taken-clause-most : goal.returns-in_err-taken-clause-most
returns-in_err-taken-clause-most g c =
    let i = c.loop-number.invariant in
    let sources = c.args.looked.now.sources.now in
    let test = c.loop-number-test.true in
    let len = c.len-number-end.ensures.len in
    let high = c.loop-number.auto.number-end in
    let lt : c.loop-number.number < length sources = omega (arith, test, len, high) in
    let after = next_redone c.args.looked.now.limit c.args.looked.now.files.now (records_in c.args.before.now) sources
    sources c.loop-number.number c.loop-number.steps c.push_lines_at.new.steps _ lt c.push_lines_at.ensures.most
    i.1.1.1.1.0 in
    let same = ap (redo (records_in c.args.before.now)) (all_replayed c.args.looked.now.limit
    c.args.looked.now.files.now sources c.requires.read.read) in
    omega (arith, after, same)
