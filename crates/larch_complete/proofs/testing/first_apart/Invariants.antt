use Rattle.std.specs.Prelude.{◌≡◌, All, length, map}
use Rattle.larch_complete_meaning.specs.LastTest.{first_apart}
use Rattle.larch_complete_pairs.specs.Said.{IsSaid, sides_in}
use Rattle.larch_complete_rounds.specs.Ready.{IsReady, rules_in}
use Rattle.larch_complete_rounds.specs.Task.{task_in}
use Rattle.larch_complete.proofs.testing.first_apart.Given as goal
use Rattle.larch_derive.specs.Predicates.{Extends}

-- the test comes to what it comes to for the equations that are left, and lines say these
abbrev pub invariant-loop-equation : goal.invariant-loop-equation
invariant-loop-equation l = record {
  goes : first_apart (task_in l.task) (rules_in l.fn.rewriter) (map sides_in l.queue.items)
      ≡ first_apart (task_in l.task) (rules_in l.fn.rewriter) (map sides_in l.fn.equations.items);
  said : All (IsSaid l.rewriter.builder) l.queue.items;
  extends : Extends l.fn.rewriter.builder l.rewriter.builder;
  same : rules_in l.rewriter ≡ rules_in l.fn.rewriter;
  ready : IsReady l.rewriter;
}

abbrev pub decreases-loop-equation : goal.decreases-loop-equation
decreases-loop-equation l = length l.queue.items
