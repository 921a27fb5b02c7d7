use Rattle.std.specs.Prelude.{◌≤◌, length}
use Rattle.std.proofs.Common.{rules}
use Rattle.std.proofs.lemmas.Result.{err_from_is_err_and}
use Rattle.larch_complete_rounds.proofs.Certifying.{rule_at, rule_stays}
use Rattle.larch_complete_rounds.proofs.NewPairs.{pairs_begin, pairs_end, pairs_step, pairs_stop_first, pairs_stop_last}
use Rattle.larch_complete_rounds.proofs.NewPairs.{pairs_stop_second}
use Rattle.larch_complete_rounds.proofs.pairing.push_new_pairs.Goals as goal
use Rattle.larch_derive.proofs.Growth.{extends_refl, extends_trans}

pub loop-rule-init : goal.loop-rule-init
loop-rule-init c = record {
  pairing = pairs_begin c.args.rules.now c.args.new.now c.args.waiting.now.items;
  said = c.requires.waiting;
  extends = extends_refl _;
}

pub push_pairs-requires-clause-first : goal.push_pairs-requires-clause-first
push_pairs-requires-clause-first c =
    (rule_at _ _ c.args.rules.now c.loop-rule.rule-index c.rule-item.result c.loop-rule.invariant.extends
    c.requires.rules c.loop-rule-test.true c.rule-item.is).said

pub push_pairs-requires-clause-second : goal.push_pairs-requires-clause-second
push_pairs-requires-clause-second c = (rule_stays _ _ c.args.new.now c.loop-rule.invariant.extends c.requires.new).said

pub push_pairs-requires-clause-first_over : goal.push_pairs-requires-clause-first_over
push_pairs-requires-clause-first_over c =
    (rule_at _ _ c.args.rules.now c.loop-rule.rule-index c.rule-item.result c.loop-rule.invariant.extends
    c.requires.rules c.loop-rule-test.true c.rule-item.is).over

pub push_pairs-requires-clause-second_over : goal.push_pairs-requires-clause-second_over
push_pairs-requires-clause-second_over c =
    (rule_stays _ _ c.args.new.now c.loop-rule.invariant.extends c.requires.new).over

pub returns-in_err-push_pairs-clause-refused : goal.returns-in_err-push_pairs-clause-refused
returns-in_err-push_pairs-clause-refused c =
    let p = err_from_is_err_and c.from_residual.result c.from_residual.ensures.1 in
    rw (p.1, p.2)
    (pairs_stop_first c.args.rules.now c.args.new.now c.loop-rule.rule-index c.rule-item.result
    c.args.waiting.now.items c.loop-rule.waiting.items _ c.loop-rule-test.true c.rule-item.is
    c.loop-rule.invariant.pairing c.in_err-push_pairs.ensures.refused)

pub returns-in_err-push_pairs-clause-extends : goal.returns-in_err-push_pairs-clause-extends
returns-in_err-push_pairs-clause-extends c =
    extends_trans _ _ _ c.loop-rule.invariant.extends c.in_err-push_pairs.ensures.extends

pub push_pairs-requires-in-loop-rule-clause-first : goal.push_pairs-requires-in-loop-rule-clause-first
push_pairs-requires-in-loop-rule-clause-first c =
    (rule_stays _ _ c.args.new.now
    (extends_trans _ _ _ c.loop-rule.invariant.extends c.in_ok-push_pairs.ensures.extends) c.requires.new).said

pub push_pairs-requires-in-loop-rule-clause-second : goal.push_pairs-requires-in-loop-rule-clause-second
push_pairs-requires-in-loop-rule-clause-second c =
    (rule_at _ _ c.args.rules.now c.loop-rule.rule-index c.rule-item.result
    (extends_trans _ _ _ c.loop-rule.invariant.extends c.in_ok-push_pairs.ensures.extends) c.requires.rules
    c.loop-rule-test.true c.rule-item.is).said

pub push_pairs-requires-in-loop-rule-clause-first_over : goal.push_pairs-requires-in-loop-rule-clause-first_over
push_pairs-requires-in-loop-rule-clause-first_over c =
    (rule_stays _ _ c.args.new.now
    (extends_trans _ _ _ c.loop-rule.invariant.extends c.in_ok-push_pairs.ensures.extends) c.requires.new).over

pub push_pairs-requires-in-loop-rule-clause-second_over : goal.push_pairs-requires-in-loop-rule-clause-second_over
push_pairs-requires-in-loop-rule-clause-second_over c =
    (rule_at _ _ c.args.rules.now c.loop-rule.rule-index c.rule-item.result
    (extends_trans _ _ _ c.loop-rule.invariant.extends c.in_ok-push_pairs.ensures.extends) c.requires.rules
    c.loop-rule-test.true c.rule-item.is).over

pub push_pairs-requires-in-loop-rule-clause-applies : goal.push_pairs-requires-in-loop-rule-clause-applies
push_pairs-requires-in-loop-rule-clause-applies c =
    (rule_at _ _ c.args.rules.now c.loop-rule.rule-index c.rule-item.result (extends_refl _) c.requires.rules
    c.loop-rule-test.true c.rule-item.is).applies

pub returns-in_err-push_pairs-2-clause-refused : goal.returns-in_err-push_pairs-2-clause-refused
returns-in_err-push_pairs-2-clause-refused c =
    let p = err_from_is_err_and c.from_residual-in_err-push_pairs-2.result
    c.from_residual-in_err-push_pairs-2.ensures.1 in
    rw (p.1, p.2)
    (pairs_stop_second c.args.rules.now c.args.new.now c.loop-rule.rule-index c.rule-item.result
    c.args.waiting.now.items c.loop-rule.waiting.items c.push_pairs.new.waiting.items _ c.loop-rule-test.true
    c.rule-item.is c.loop-rule.invariant.pairing c.in_ok-push_pairs.ensures.wait
    c.in_err-push_pairs-2.ensures.refused)

pub returns-in_err-push_pairs-2-clause-extends : goal.returns-in_err-push_pairs-2-clause-extends
returns-in_err-push_pairs-2-clause-extends c =
    extends_trans _ _ _
    (extends_trans _ _ _ c.loop-rule.invariant.extends c.in_ok-push_pairs.ensures.extends)
    c.in_err-push_pairs-2.ensures.extends

pub loop-rule-preserved : goal.loop-rule-preserved
loop-rule-preserved c = record {
  pairing = pairs_step c.args.rules.now c.args.new.now c.loop-rule.rule-index c.rule-item.result
      c.args.waiting.now.items c.loop-rule.waiting.items c.push_pairs.new.waiting.items
      c.push_pairs-in-loop-rule.new.waiting.items c.loop-rule-test.true c.rule-item.is c.loop-rule.invariant.pairing
      c.in_ok-push_pairs.ensures.wait c.in_ok-push_pairs-2.ensures.wait;
  said = c.in_ok-push_pairs-2.ensures.said;
  extends = extends_trans _ _ _
      (extends_trans _ _ _ c.loop-rule.invariant.extends c.in_ok-push_pairs.ensures.extends)
      c.in_ok-push_pairs-2.ensures.extends;
}

pub push_pairs-requires-2-clause-first : goal.push_pairs-requires-2-clause-first
push_pairs-requires-2-clause-first c =
    (rule_stays _ _ c.args.new.now c.loop-rule.invariant.extends c.requires.new).said

pub push_pairs-requires-2-clause-second : goal.push_pairs-requires-2-clause-second
push_pairs-requires-2-clause-second c =
    (rule_stays _ _ c.args.new.now c.loop-rule.invariant.extends c.requires.new).said

pub push_pairs-requires-2-clause-first_over : goal.push_pairs-requires-2-clause-first_over
push_pairs-requires-2-clause-first_over c =
    (rule_stays _ _ c.args.new.now c.loop-rule.invariant.extends c.requires.new).over

pub push_pairs-requires-2-clause-second_over : goal.push_pairs-requires-2-clause-second_over
push_pairs-requires-2-clause-second_over c =
    (rule_stays _ _ c.args.new.now c.loop-rule.invariant.extends c.requires.new).over

pub returns-in_err-push_pairs-3-clause-refused : goal.returns-in_err-push_pairs-3-clause-refused
returns-in_err-push_pairs-3-clause-refused c =
    let l : length c.args.rules.now ≤ c.loop-rule.rule-index = search rules in
    let p = err_from_is_err_and c.from_residual-in_err-push_pairs-3.result
    c.from_residual-in_err-push_pairs-3.ensures.1 in
    rw (p.1, p.2)
    (pairs_stop_last c.args.rules.now c.args.new.now c.loop-rule.rule-index c.args.waiting.now.items
    c.loop-rule.waiting.items _ l c.loop-rule.invariant.pairing c.in_err-push_pairs-3.ensures.refused)

pub returns-in_err-push_pairs-3-clause-extends : goal.returns-in_err-push_pairs-3-clause-extends
returns-in_err-push_pairs-3-clause-extends c =
    extends_trans _ _ _ c.loop-rule.invariant.extends c.in_err-push_pairs-3.ensures.extends

pub returns-clause-wait : goal.returns-clause-wait
returns-clause-wait c =
    let l : length c.args.rules.now ≤ c.loop-rule.rule-index = search rules in
    pairs_end c.args.rules.now c.args.new.now c.loop-rule.rule-index c.args.waiting.now.items
    c.loop-rule.waiting.items c.push_pairs-2.new.waiting.items l c.loop-rule.invariant.pairing
    c.in_ok-push_pairs-3.ensures.wait

pub returns-clause-extends : goal.returns-clause-extends
returns-clause-extends c =
    extends_trans _ _ _ c.loop-rule.invariant.extends c.in_ok-push_pairs-3.ensures.extends
