-- Pair by pair.
use Rattle.std.proofs.Common.{subst, sym}
use Rattle.larch_complete_pairs.proofs.PairEntries.{pair_stays}
use Rattle.larch_complete_pairs.specs.Said.{IsPairOf, rule_in}
use Rattle.larch_derive.proofs.Growth.{extends_trans, stays_said}
use Rattle.larch_prove_work.specs.ProveAddingEquationSaidEquation.{SaidEquation}
use Rattle.larch_prove_facts.proofs.Paired.{pairs_more, said_more}
use Rattle.larch_prove_facts.proofs.pairs.say_pairs.Goals as goal

pub returns-in_err-left-clause-extends : goal.returns-in_err-left-clause-extends
returns-in_err-left-clause-extends c =
    let x = c.loop-pair.invariant.extends in
    let p = subst (IsPairOf c.args.builder.now (rule_in c.args.first.now) (rule_in c.args.second.now))
    (sym c.pair-item.is) (c.requires.pairs c.loop-pair.pair-index c.pair-item.result c.loop-pair-test.true) in
    extends_trans _ _ _ x
    (c.in_err-left.ensures.extends (rule_in c.args.first.now) (rule_in c.args.second.now)
    (stays_said _ _ _ _ x c.requires.first) (stays_said _ _ _ _ x c.requires.second) (pair_stays _ _ _ _ _ x p))

pub returns-in_err-push-clause-extends : goal.returns-in_err-push-clause-extends
returns-in_err-push-clause-extends c =
    let x = c.loop-pair.invariant.extends in
    let p = subst (IsPairOf c.args.builder.now (rule_in c.args.first.now) (rule_in c.args.second.now))
    (sym c.pair-item.is) (c.requires.pairs c.loop-pair.pair-index c.pair-item.result c.loop-pair-test.true) in
    extends_trans _ _ _ x
    (c.in_ok-left.ensures.extends (rule_in c.args.first.now) (rule_in c.args.second.now)
    (stays_said _ _ _ _ x c.requires.first) (stays_said _ _ _ _ x c.requires.second) (pair_stays _ _ _ _ _ x p))

pub loop-pair-preserved : goal.loop-pair-preserved
loop-pair-preserved c =
    let x = c.loop-pair.invariant.extends in
    let p = subst (IsPairOf c.args.builder.now (rule_in c.args.first.now) (rule_in c.args.second.now))
    (sym c.pair-item.is) (c.requires.pairs c.loop-pair.pair-index c.pair-item.result c.loop-pair-test.true) in
    let f = stays_said _ _ _ _ x c.requires.first in
    let s = stays_said _ _ _ _ x c.requires.second in
    let q = pair_stays _ _ _ _ _ x p in
    let y = c.in_ok-left.ensures.extends (rule_in c.args.first.now) (rule_in c.args.second.now) f s q in
    let e : SaidEquation = record {
      left = c.in_ok-left.field-0.left;
      right = c.in_ok-left.field-0.right;
      line = c.in_ok-left.field-0.line;
    } in
    record {
      pairs = pairs_more c.loop-pair.equations.items c.push.new.self.items c.args.pairs.now c.loop-pair.pair-index
          c.pair-item.result e c.loop-pair.invariant.pairs c.in_ok-push.ensures.items c.in_ok-left.ensures.sides
          c.loop-pair-test.true c.pair-item.is;
      said = said_more _ _ c.loop-pair.equations.items c.push.new.self.items e y c.loop-pair.invariant.said
          (c.in_ok-left.ensures.says (rule_in c.args.first.now) (rule_in c.args.second.now) f s q)
          c.in_ok-push.ensures.items;
      extends = extends_trans _ _ _ x y;
    }
