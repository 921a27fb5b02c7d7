use Rattle.std.proofs.Common.{◌+◌, ◌∷◌, drop, sym, ◌∙◌, ap}
use Rattle.std.proofs.lemmas.List.{drop_more}
use Rattle.larch_verify_meaning.specs.Acceptance.{verdict_from}
use Rattle.larch_verify.specs.Checking.{state_of}
use Rattle.larch_verify.proofs.Kept.{statements_stay}
use Rattle.larch_verify.proofs.Taken.{verdict_on}
use Rattle.larch_verify.proofs.steps.take_lines.Goals as goal

pub loop-line-preserved : goal.loop-line-preserved
loop-line-preserved c = record {
  past = c.in_ok-good.ensures.past c.if-not-good.false;
  axioms = statements_stay c.args.theory.now c.loop-line.pool c.take_line.new.pool c.args.axioms.now
      c.loop-line.invariant.axioms c.in_ok-good.ensures.grows;
  verdict = λ s.
      c.loop-line.invariant.verdict s
      ∙ ap (verdict_from c.args.theory.now s (state_of c.loop-line.pool c.loop-line.past))
      (drop_more c.args.lines.now c.loop-line.line-index c.line-item.result c.loop-line-test.true
      ∙ ap (λ x. x ∷ drop (c.loop-line.line-index + 1) c.args.lines.now) (sym c.line-item.is))
      ∙ verdict_on c.args.theory.now s (state_of c.loop-line.pool c.loop-line.past)
      (state_of c.take_line.new.pool c.take_line.new.past) c.line-item.result
      (drop (c.loop-line.line-index + 1) c.args.lines.now) c.in_ok-good.good c.in_ok-good.ensures.step
      c.if-not-good.false;
}
