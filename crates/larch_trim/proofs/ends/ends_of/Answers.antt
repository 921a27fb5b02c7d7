use Rattle.std.proofs.Common.{◌≡◌, [], suc, length, replicate, sym, ◌∙◌, ap, subst}
use Rattle.std.proofs.Common.{arith}
use Rattle.std.proofs.lemmas.List.{drop_all}
use Rattle.larch_trim.specs.Ends.{AreEnds}
use Rattle.larch_trim.proofs.Filling.{filled, all_filled, next_line}
use Rattle.larch_trim.proofs.ends.ends_of.Goals as goal

pub loop-line-preserved : goal.loop-line-preserved
loop-line-preserved c =
    let number = c.loop-line.invariant.number in
    record {
      number = omega (arith, number);
      ends = next_line c.args.lines.now c.loop-line.line-index c.loop-line.number c.loop-line.inside
          c.pass_line.new.inside c.loop-line.ends.items c.pass_line.new.ends.items c.line-item.result
          c.loop-line-test.true c.line-item.is number c.in_ok-pass_line.ensures.inside
          c.in_ok-pass_line.ensures.ends
          ∙ c.loop-line.invariant.ends;
    }

pub returns : goal.returns
returns c =
    let i = c.loop-line.line-index in
    let lines = c.args.lines.now in
    let all : c.loop-line.ends.items ≡ filled 1 [] lines (replicate (suc (length lines)) 0) =
    ap (λ ls. filled (suc i) c.loop-line.inside ls c.loop-line.ends.items)
    (sym (drop_all i lines c.loop-line-test.false))
    ∙ c.loop-line.invariant.ends in
    subst (AreEnds lines) (sym all) (all_filled lines)
