use Rattle.std.specs.Prelude.{◌+◌, ◌≤◌, ◌==◌, ◌∷◌, [], length, map, refl}
use Rattle.std.proofs.Common.{rules, ◌∙◌}
use Rattle.std.proofs.lemmas.Result.{err_from_is_err_and}
use Rattle.larch_complete.proofs.Found.{all_left, finds_left, goes_left, halts_left, left_none, row_ends, row_left}
use Rattle.larch_complete.proofs.Found.{row_next}
use Rattle.larch_complete.proofs.testing.first_apart_in_rule.Goals as goal
use Rattle.larch_complete_meaning.specs.Pairs.{pairs_from, pairs_in}
use Rattle.larch_complete_pairs.specs.Said.{rule_in}
use Rattle.larch_complete_rounds.specs.Certified.{sides_behind}
use Rattle.larch_complete_rounds.specs.Ready.{rules_in}
use Rattle.larch_complete_rounds.specs.Task.{task_in}
use Rattle.larch_complete_rounds.proofs.Certifying.{rule_at, rule_stays, rules_stay}
use Rattle.larch_derive.proofs.Growth.{extends_refl, extends_trans}

pub loop-index-init : goal.loop-index-init
loop-index-init c = record {
  left = all_left (task_in c.args.task.now) (rules_in c.args.rewriter.now) _ _ refl;
  rules = c.requires.rules;
  first = c.requires.first;
  extends = extends_refl _;
  same = refl;
  ready = c.requires.ready;
}

pub first_pair_apart-requires-clause-second : goal.first_pair_apart-requires-clause-second
first_pair_apart-requires-clause-second c =
    rule_at _ _ c.args.rules.now c.loop-index.index c.index-rules-index.result (extends_refl _)
    c.loop-index.invariant.rules c.loop-index-test.true c.index-rules-index.is

pub returns-in_err-found-clause-halts : goal.returns-in_err-found-clause-halts
returns-in_err-found-clause-halts c =
    let p = err_from_is_err_and c.from_residual.result c.from_residual.ensures.1 in
    rw (p.1, p.2)
    (halts_left (task_in c.args.task.now) (rules_in c.args.rewriter.now) (rules_in c.loop-index.rewriter)
    (pairs_from c.args.place (rule_in c.args.first.now) 0 (map sides_behind c.args.rules.now))
    (row_left c.args.place (rule_in c.args.first.now) c.args.rules.now c.loop-index.index)
    (pairs_in (rule_in c.args.first.now) (sides_behind c.index-rules-index.result)
    (c.args.place == c.loop-index.index) ∷ [])
    (row_left c.args.place (rule_in c.args.first.now) c.args.rules.now (c.loop-index.index + 1)) _
    c.loop-index.invariant.same c.loop-index.invariant.left
    (row_next c.args.place (rule_in c.args.first.now) c.args.rules.now c.loop-index.index c.index-rules-index.result
    c.loop-index-test.true c.index-rules-index.is) c.in_err-found.ensures.halts)

pub returns-in_err-found-clause-extends : goal.returns-in_err-found-clause-extends
returns-in_err-found-clause-extends c =
    extends_trans _ _ _ c.loop-index.invariant.extends c.in_err-found.ensures.extends

pub returns-in-Some-clause-found : goal.returns-in-Some-clause-found
returns-in-Some-clause-found c =
    finds_left (task_in c.args.task.now) (rules_in c.args.rewriter.now) (rules_in c.loop-index.rewriter)
    (pairs_from c.args.place (rule_in c.args.first.now) 0 (map sides_behind c.args.rules.now))
    (row_left c.args.place (rule_in c.args.first.now) c.args.rules.now c.loop-index.index)
    (pairs_in (rule_in c.args.first.now) (sides_behind c.index-rules-index.result)
    (c.args.place == c.loop-index.index) ∷ [])
    (row_left c.args.place (rule_in c.args.first.now) c.args.rules.now (c.loop-index.index + 1))
    c.in_ok-found.found c.in-Some.equation
    c.loop-index.invariant.same c.loop-index.invariant.left
    (row_next c.args.place (rule_in c.args.first.now) c.args.rules.now c.loop-index.index c.index-rules-index.result
    c.loop-index-test.true c.index-rules-index.is) c.in-Some.is c.in_ok-found.ensures.found

pub returns-in-Some-clause-extends : goal.returns-in-Some-clause-extends
returns-in-Some-clause-extends c =
    extends_trans _ _ _ c.loop-index.invariant.extends c.in_ok-found.ensures.extends

pub loop-index-preserved : goal.loop-index-preserved
loop-index-preserved c = record {
  left = goes_left (task_in c.args.task.now) (rules_in c.args.rewriter.now) (rules_in c.loop-index.rewriter)
      (pairs_from c.args.place (rule_in c.args.first.now) 0 (map sides_behind c.args.rules.now))
      (row_left c.args.place (rule_in c.args.first.now) c.args.rules.now c.loop-index.index)
      (pairs_in (rule_in c.args.first.now) (sides_behind c.index-rules-index.result)
      (c.args.place == c.loop-index.index) ∷ [])
      (row_left c.args.place (rule_in c.args.first.now) c.args.rules.now (c.loop-index.index + 1))
      c.in_ok-found.found c.loop-index.invariant.same c.loop-index.invariant.left
      (row_next c.args.place (rule_in c.args.first.now) c.args.rules.now c.loop-index.index c.index-rules-index.result
      c.loop-index-test.true c.index-rules-index.is) c.in_default.is c.in_ok-found.ensures.found;
  rules = rules_stay _ _ c.args.rules.now c.in_ok-found.ensures.extends c.loop-index.invariant.rules;
  first = rule_stays _ _ c.args.first.now c.in_ok-found.ensures.extends c.loop-index.invariant.first;
  extends = extends_trans _ _ _ c.loop-index.invariant.extends c.in_ok-found.ensures.extends;
  same = c.in_ok-found.ensures.rules ∙ c.loop-index.invariant.same;
  ready = c.in_ok-found.ensures.ready;
}

pub returns-clause-found : goal.returns-clause-found
returns-clause-found c =
    let l : length c.args.rules.now ≤ c.loop-index.index = search rules in
    left_none (task_in c.args.task.now) (rules_in c.args.rewriter.now) _ _ c.loop-index.invariant.left
    (row_ends c.args.place (rule_in c.args.first.now) c.args.rules.now c.loop-index.index l)
