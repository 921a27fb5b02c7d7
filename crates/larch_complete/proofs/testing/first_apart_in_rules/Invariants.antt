use Rattle.std.specs.Prelude.{◌≡◌, All, map}
use Rattle.larch_complete.proofs.Found.{Left, rows_left}
use Rattle.larch_complete.proofs.testing.first_apart_in_rules.Given as goal
use Rattle.larch_complete_meaning.specs.Pairs.{pairs_of_all}
use Rattle.larch_complete_rounds.specs.Certified.{IsRuleIn, sides_behind}
use Rattle.larch_complete_rounds.specs.Ready.{IsReady, rules_in}
use Rattle.larch_complete_rounds.specs.Task.{task_in}
use Rattle.larch_derive.specs.Predicates.{Extends}

-- the test goes on with the pairs in the rules that are left
abbrev pub invariant-loop-place : goal.invariant-loop-place
invariant-loop-place l = record {
  left : Left (task_in l.task) (rules_in l.fn.rewriter) (pairs_of_all (map sides_behind l.rules))
      (rows_left l.rules l.place);
  rules : All (λ r. IsRuleIn l.rewriter.builder r.said) l.rules;
  extends : Extends l.fn.rewriter.builder l.rewriter.builder;
  same : rules_in l.rewriter ≡ rules_in l.fn.rewriter;
  ready : IsReady l.rewriter;
}
