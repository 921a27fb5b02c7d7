use Rattle.std.proofs.Common.{◌≡◌, ◌<◌, ◌++◌, ◌∷◌, [], IsSome, Some, subst, sym, ◌∙◌, arith, sum_by}
use Rattle.std.specs.Prelude.{nat_eq, reverse}
use Rattle.std.specs.HashMap.{get}
use Rattle.std.proofs.lemmas.Grind.{common_steps}
use Rattle.larch_verify_pool.specs.Tasks.{AreTasks, effort}
use Rattle.larch_verify_pool.proofs.Front.{front_refl, grows_trans}
use Rattle.larch_verify_pool.proofs.Tasks.{due_done, next_is, next_tasks, next_within, term_within}
use Rattle.larch_verify_pool.proofs.exchanging.exchange.Goals as goal

pub carry_out-requires-clause-number : goal.carry_out-requires-clause-number
carry_out-requires-clause-number c =
    let w : c.loop-task.tasks.items ≡ c.pop.new.self.items ++ c.in-Some.task ∷ [] = grind (arith, common_steps) in
    let a = next_tasks c.loop-task.pool.trees c.args.rule.now c.args.term (get nat_eq c.loop-task.done)
    c.loop-task.tasks.items c.pop.new.self.items c.in-Some.task w c.loop-task.invariant.tasks in
    next_within c.loop-task.pool.trees c.loop-task.pool.trees c.args.rule.now c.args.term (get nat_eq c.loop-task.done)
    c.in-Some.task (reverse c.pop.new.self.items) (front_refl c.loop-task.pool.trees)
    (term_within c.args.pool.now.trees c.loop-task.pool.trees c.args.term c.loop-task.invariant.grows.1
    c.requires.term) a

pub carry_out-requires-clause-ready : goal.carry_out-requires-clause-ready
carry_out-requires-clause-ready c =
    let w : c.loop-task.tasks.items ≡ c.pop.new.self.items ++ c.in-Some.task ∷ [] = grind (arith, common_steps) in
    (next_tasks c.loop-task.pool.trees c.args.rule.now c.args.term (get nat_eq c.loop-task.done)
    c.loop-task.tasks.items c.pop.new.self.items c.in-Some.task w c.loop-task.invariant.tasks).1

pub loop-task-preserved : goal.loop-task-preserved
loop-task-preserved c =
    let w : c.loop-task.tasks.items ≡ c.pop.new.self.items ++ c.in-Some.task ∷ [] = grind (arith, common_steps) in
    let a = next_tasks c.loop-task.pool.trees c.args.rule.now c.args.term (get nat_eq c.loop-task.done)
    c.loop-task.tasks.items c.pop.new.self.items c.in-Some.task w c.loop-task.invariant.tasks in
    record {
      grows =
          grows_trans c.args.pool.now c.loop-task.pool c.carry_out.new.pool c.loop-task.invariant.grows
          c.in_ok-carry_out.ensures.grows;
      operators = c.in_ok-carry_out.ensures.operators ∙ c.loop-task.invariant.operators;
      within = c.in_ok-carry_out.ensures.within;
      tasks =
          c.in_ok-carry_out.ensures.tasks c.args.term
          (term_within c.args.pool.now.trees c.loop-task.pool.trees c.args.term c.loop-task.invariant.grows.1
          c.requires.term) a;
      right =
          λ F ex. c.in_ok-carry_out.ensures.right c.args.pool.now.trees F c.loop-task.invariant.grows.1
          (next_within c.args.pool.now.trees c.loop-task.pool.trees c.args.rule.now c.args.term
          (get nat_eq c.loop-task.done) c.in-Some.task (reverse c.pop.new.self.items) c.loop-task.invariant.grows.1
          c.requires.term a) ex (c.loop-task.invariant.right F ex);
    }

pub loop-task-smaller : goal.loop-task-smaller
loop-task-smaller c =
    let w : c.loop-task.tasks.items ≡ c.pop.new.self.items ++ c.in-Some.task ∷ [] = grind (arith, common_steps) in
    let a = next_tasks c.loop-task.pool.trees c.args.rule.now c.args.term (get nat_eq c.loop-task.done)
    c.loop-task.tasks.items c.pop.new.self.items c.in-Some.task w c.loop-task.invariant.tasks in
    subst (λ ws. sum_by (effort c.carry_out.new.pool.trees) (reverse c.carry_out.new.tasks.items)
    < sum_by (effort c.loop-task.pool.trees) ws)
    (sym (next_is c.loop-task.tasks.items c.pop.new.self.items c.in-Some.task w))
    (c.in_ok-carry_out.ensures.effort c.args.term
    (term_within c.args.pool.now.trees c.loop-task.pool.trees c.args.term c.loop-task.invariant.grows.1
    c.requires.term) a)

pub unreachable-requires : goal.unreachable-requires
unreachable-requires c =
    let e : c.loop-task.tasks.items ≡ [] = grind (arith, common_steps) in
    let d : IsSome (get nat_eq c.loop-task.done c.args.term) =
    due_done (get nat_eq c.loop-task.done) c.args.term
    (subst (λ ws. AreTasks c.loop-task.pool.trees c.args.rule.now c.args.term (get nat_eq c.loop-task.done) []
    (reverse ws)) e c.loop-task.invariant.tasks) in
    grind (arith, common_steps, d)

pub returns-clause-tree : goal.returns-clause-tree
returns-clause-tree c = λ F ex.
    let e : get nat_eq c.loop-task.done c.args.term ≡ Some c.in-Some-get.number.now = grind (arith, common_steps) in
    c.loop-task.invariant.right F ex c.args.term c.in-Some-get.number.now e
