use Rattle.std.specs.Prelude.{◌+◌, ◌≤◌, length, map, refl}
use Rattle.std.proofs.Common.{rules, ◌∙◌}
use Rattle.std.proofs.lemmas.Result.{err_from_is_err_and}
use Rattle.larch_complete.proofs.Found.{all_left, finds_left, goes_left, halts_left, left_none, rows_end, rows_left}
use Rattle.larch_complete.proofs.Found.{rows_next}
use Rattle.larch_complete.proofs.testing.first_apart_in_rules.Goals as goal
use Rattle.larch_complete_meaning.specs.Pairs.{pairs_from, pairs_of_all}
use Rattle.larch_complete_rounds.specs.Certified.{sides_behind}
use Rattle.larch_complete_rounds.specs.Ready.{rules_in}
use Rattle.larch_complete_rounds.specs.Task.{task_in}
use Rattle.larch_complete_rounds.proofs.Certifying.{rule_at, rules_stay}
use Rattle.larch_derive.proofs.Growth.{extends_refl, extends_trans}

pub loop-place-init : goal.loop-place-init
loop-place-init c = record {
  left = all_left (task_in c.args.task.now) (rules_in c.args.rewriter.now) _ _ refl;
  rules = c.requires.rules;
  extends = extends_refl _;
  same = refl;
  ready = c.requires.ready;
}

pub first_apart_in_rule-requires-clause-first : goal.first_apart_in_rule-requires-clause-first
first_apart_in_rule-requires-clause-first c =
    rule_at _ _ c.args.rules.now c.loop-place.place c.index-rules-place.result (extends_refl _)
    c.loop-place.invariant.rules c.loop-place-test.true c.index-rules-place.is

pub returns-in_err-found-clause-halts : goal.returns-in_err-found-clause-halts
returns-in_err-found-clause-halts c =
    let p = err_from_is_err_and c.from_residual.result c.from_residual.ensures.1 in
    rw (p.1, p.2)
    (halts_left (task_in c.args.task.now) (rules_in c.args.rewriter.now) (rules_in c.loop-place.rewriter)
    (pairs_of_all (map sides_behind c.args.rules.now))
    (rows_left c.args.rules.now c.loop-place.place)
    (pairs_from c.loop-place.place (sides_behind c.index-rules-place.result) 0 (map sides_behind c.args.rules.now))
    (rows_left c.args.rules.now (c.loop-place.place + 1)) _
    c.loop-place.invariant.same c.loop-place.invariant.left
    (rows_next c.args.rules.now c.loop-place.place c.index-rules-place.result
    c.loop-place-test.true c.index-rules-place.is) c.in_err-found.ensures.halts)

pub returns-in_err-found-clause-extends : goal.returns-in_err-found-clause-extends
returns-in_err-found-clause-extends c =
    extends_trans _ _ _ c.loop-place.invariant.extends c.in_err-found.ensures.extends

pub returns-in-Some-clause-found : goal.returns-in-Some-clause-found
returns-in-Some-clause-found c =
    finds_left (task_in c.args.task.now) (rules_in c.args.rewriter.now) (rules_in c.loop-place.rewriter)
    (pairs_of_all (map sides_behind c.args.rules.now))
    (rows_left c.args.rules.now c.loop-place.place)
    (pairs_from c.loop-place.place (sides_behind c.index-rules-place.result) 0 (map sides_behind c.args.rules.now))
    (rows_left c.args.rules.now (c.loop-place.place + 1))
    c.in_ok-found.found c.in-Some.equation
    c.loop-place.invariant.same c.loop-place.invariant.left
    (rows_next c.args.rules.now c.loop-place.place c.index-rules-place.result
    c.loop-place-test.true c.index-rules-place.is) c.in-Some.is c.in_ok-found.ensures.found

pub returns-in-Some-clause-extends : goal.returns-in-Some-clause-extends
returns-in-Some-clause-extends c =
    extends_trans _ _ _ c.loop-place.invariant.extends c.in_ok-found.ensures.extends

pub loop-place-preserved : goal.loop-place-preserved
loop-place-preserved c = record {
  left = goes_left (task_in c.args.task.now) (rules_in c.args.rewriter.now) (rules_in c.loop-place.rewriter)
      (pairs_of_all (map sides_behind c.args.rules.now))
      (rows_left c.args.rules.now c.loop-place.place)
      (pairs_from c.loop-place.place (sides_behind c.index-rules-place.result) 0 (map sides_behind c.args.rules.now))
      (rows_left c.args.rules.now (c.loop-place.place + 1))
      c.in_ok-found.found c.loop-place.invariant.same c.loop-place.invariant.left
      (rows_next c.args.rules.now c.loop-place.place c.index-rules-place.result
      c.loop-place-test.true c.index-rules-place.is) c.in_default.is c.in_ok-found.ensures.found;
  rules = rules_stay _ _ c.args.rules.now c.in_ok-found.ensures.extends c.loop-place.invariant.rules;
  extends = extends_trans _ _ _ c.loop-place.invariant.extends c.in_ok-found.ensures.extends;
  same = c.in_ok-found.ensures.rules ∙ c.loop-place.invariant.same;
  ready = c.in_ok-found.ensures.ready;
}

pub returns-clause-found : goal.returns-clause-found
returns-clause-found c =
    let l : length c.args.rules.now ≤ c.loop-place.place = search rules in
    left_none (task_in c.args.task.now) (rules_in c.args.rewriter.now) _ _ c.loop-place.invariant.left
    (rows_end c.args.rules.now c.loop-place.place l)
