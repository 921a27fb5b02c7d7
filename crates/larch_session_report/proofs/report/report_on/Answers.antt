use Rattle.std.proofs.Common.{All, ap, arith, subst, ◌∙◌, ◌++◌}
use Rattle.larch_prove_meaning.specs.Redo.{redo}
use Rattle.larch_session_kept.specs.Kept.{limit_in, records_in}
use Rattle.larch_session_replay.proofs.SessionSourcesTold.{whole_report}
use Rattle.larch_session_report.proofs.report.report_on.Goals as goal
use Rattle.larch_session_replay.specs.SessionMeaningFiles.{report_of}
use Rattle.larch_session_replay.specs.SessionMeaningRedone.{replayed_on}
use Rattle.larch_session_replay.specs.SessionSourcesJustified.{AreJustified, IsJustifiedReport}
use Rattle.larch_session_replay.specs.TraitsReading.{read_files}

pub push_source_lines-requires-clause-read : goal.push_source_lines-requires-clause-read
push_source_lines-requires-clause-read g c =
    record {
      read = c.in_ok-sources.ensures;
      known = c.in_ok-flat_traits.ensures.0;
      all = c.in_ok-flat_traits.ensures.1;
    }

pub push_source_lines-requires-clause-limit : goal.push_source_lines-requires-clause-limit
push_source_lines-requires-clause-limit g c = (c.limit.ensures, ap limit_in c.new-2.ensures ∙ c.limit-2.ensures)

pub returns-clause-lines : goal.returns-clause-lines
returns-clause-lines g c =
    whole_report c.limit.result c.args.files.now c.in_ok-sources.sources c.new.result
    c.push_source_lines.new.report.lines c.push_stray_lines.new.lines c.in_ok-sources.ensures c.new.ensures
    c.in_ok-work.ensures.lines c.in_ok-push_stray_lines.ensures
    ∙ ap (λ limit. report_of limit c.args.files.now) c.limit.ensures

pub returns-clause-limit : goal.returns-clause-limit
returns-clause-limit g c = c.in_ok-work.ensures.limit ∙ ap limit_in c.new-2.ensures ∙ c.limit-2.ensures

pub returns-clause-base : goal.returns-clause-base
returns-clause-base g c =
    c.in_ok-work.ensures.base
    ∙ ap (λ base. records_in base ++ replayed_on c.limit.result c.args.files.now) c.new-2.ensures
    ∙ ap (λ limit. replayed_on limit c.args.files.now) c.limit.ensures

pub returns-clause-proved : goal.returns-clause-proved
unfolding IsJustifiedReport
returns-clause-proved g c =
    subst (λ limit. All (λ source. AreJustified limit c.args.files.now source.0) (read_files c.args.files.now))
    c.limit.ensures
    (subst (All (λ source. AreJustified c.limit.result c.args.files.now source.0)) c.in_ok-sources.ensures
    c.in_ok-work.ensures.proved)

pub returns-clause-most : goal.returns-clause-most
returns-clause-most g c =
    let most = c.push_source_lines.ensures.most in
    let same = ap (λ limit. redo (records_in c.args.before.now) (replayed_on limit c.args.files.now))
    c.limit.ensures in
    omega (arith, most, same)
