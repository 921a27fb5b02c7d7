use Rattle.std.specs.Prelude.{◌≡◌, All, map}
use Rattle.larch_complete.proofs.Found.{Left, row_left}
use Rattle.larch_complete.proofs.testing.first_apart_in_rule.Given as goal
use Rattle.larch_complete_meaning.specs.Pairs.{pairs_from}
use Rattle.larch_complete_pairs.specs.Said.{rule_in}
use Rattle.larch_complete_rounds.specs.Certified.{IsRuleIn, sides_behind}
use Rattle.larch_complete_rounds.specs.Ready.{IsReady, rules_in}
use Rattle.larch_complete_rounds.specs.Task.{task_in}
use Rattle.larch_derive.specs.Predicates.{Extends}

-- the test goes on with the pairs of the rules that are left
abbrev pub invariant-loop-index : goal.invariant-loop-index
invariant-loop-index l = record {
  left : Left (task_in l.task) (rules_in l.fn.rewriter)
      (pairs_from l.place (rule_in l.first) 0 (map sides_behind l.rules))
      (row_left l.place (rule_in l.first) l.rules l.index);
  rules : All (λ r. IsRuleIn l.rewriter.builder r.said) l.rules;
  first : IsRuleIn l.rewriter.builder l.first;
  extends : Extends l.fn.rewriter.builder l.rewriter.builder;
  same : rules_in l.rewriter ≡ rules_in l.fn.rewriter;
  ready : IsReady l.rewriter;
}
