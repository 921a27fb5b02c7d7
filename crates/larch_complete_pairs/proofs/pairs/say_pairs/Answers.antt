use Rattle.std.proofs.Common.{subst, sym}
use Rattle.std.proofs.lemmas.List.{append-nil}
use Rattle.larch_complete_pairs.specs.Said.{IsPairOf, rule_in}
use Rattle.larch_complete_pairs.proofs.PairEntries.{pair_stays}
use Rattle.larch_complete_pairs.proofs.Waiting.{all_said, waits_more}
use Rattle.larch_complete_pairs.proofs.pairs.say_pairs.Goals as goal
use Rattle.larch_derive.proofs.Growth.{extends_refl, extends_trans, stays_said}

pub loop-pair-init : goal.loop-pair-init
loop-pair-init c = record {
  wait = sym (append-nil _);
  said = c.requires.waiting;
  extends = extends_refl _;
}

pub returns-in_err-equation-clause-extends : goal.returns-in_err-equation-clause-extends
returns-in_err-equation-clause-extends c =
    let x = c.loop-pair.invariant.extends in
    let p = subst (IsPairOf c.args.builder.now (rule_in c.args.first.now) (rule_in c.args.second.now))
    (sym c.pair-item.is) (c.requires.pairs c.loop-pair.pair-index c.pair-item.result c.loop-pair-test.true) in
    extends_trans _ _ _ x
    (c.in_err-equation.ensures.extends (rule_in c.args.first.now) (rule_in c.args.second.now)
    (stays_said _ _ _ _ x c.requires.first) (stays_said _ _ _ _ x c.requires.second) (pair_stays _ _ _ _ _ x p))

pub returns-in_err-push_back-clause-extends : goal.returns-in_err-push_back-clause-extends
returns-in_err-push_back-clause-extends c =
    let x = c.loop-pair.invariant.extends in
    let p = subst (IsPairOf c.args.builder.now (rule_in c.args.first.now) (rule_in c.args.second.now))
    (sym c.pair-item.is) (c.requires.pairs c.loop-pair.pair-index c.pair-item.result c.loop-pair-test.true) in
    extends_trans _ _ _ x
    (c.in_ok-equation.ensures.extends (rule_in c.args.first.now) (rule_in c.args.second.now)
    (stays_said _ _ _ _ x c.requires.first) (stays_said _ _ _ _ x c.requires.second) (pair_stays _ _ _ _ _ x p))

pub loop-pair-preserved : goal.loop-pair-preserved
loop-pair-preserved c =
    let x = c.loop-pair.invariant.extends in
    let p = subst (IsPairOf c.args.builder.now (rule_in c.args.first.now) (rule_in c.args.second.now))
    (sym c.pair-item.is) (c.requires.pairs c.loop-pair.pair-index c.pair-item.result c.loop-pair-test.true) in
    let f = stays_said _ _ _ _ x c.requires.first in
    let s = stays_said _ _ _ _ x c.requires.second in
    let q = pair_stays _ _ _ _ _ x p in
    let y = c.in_ok-equation.ensures.extends (rule_in c.args.first.now) (rule_in c.args.second.now) f s q in
    record {
      wait = waits_more c.args.waiting.now.items c.loop-pair.waiting.items c.push_back.new.self.items
          c.args.pairs.now c.loop-pair.pair-index c.pair-item.result c.in_ok-equation.equation
          c.loop-pair.invariant.wait c.in_ok-push_back.ensures.items c.in_ok-equation.ensures.sides
          c.loop-pair-test.true c.pair-item.is;
      said = all_said _ _ c.loop-pair.waiting.items c.push_back.new.self.items c.in_ok-equation.equation y
          c.loop-pair.invariant.said
          (c.in_ok-equation.ensures.says (rule_in c.args.first.now) (rule_in c.args.second.now) f s q)
          c.in_ok-push_back.ensures.items;
      extends = extends_trans _ _ _ x y;
    }
