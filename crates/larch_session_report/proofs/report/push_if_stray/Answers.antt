use Rattle.std.proofs.Common.{ap, sym, ◌∙◌, ◌∷◌, ◌++◌, []}
use Rattle.larch_report.specs.declared.line.ReportLine.TheVariants.{Stray}
use Rattle.larch_session_report.proofs.Strays.{on_ok, other_first, stray_first}
use Rattle.larch_session_report.proofs.report.push_if_stray.Goals as goal

pub returns-then-not-stray : goal.returns-then-not-stray
returns-then-not-stray c = λ rest.
    other_first c.args.files.now c.args.name.now rest c.args.lines.now (sym c.in_ok-stray.ensures ∙ c.if-not-stray.true)

pub returns : goal.returns
returns c =
    on_ok c.push.result
    (λ put. λ rest. stray_first c.args.files.now c.args.name.now rest c.args.lines.now c.push.new.self
    (sym c.in_ok-stray.ensures ∙ c.if-not-stray.false)
    (put ∙ ap (λ n. c.args.lines.now ++ Stray n ∷ []) (c.in_ok-stem.ensures ∙ c.stem.ensures)))
    c.push.ensures.ok
