use Rattle.std.proofs.Common.{◌≡◌, ◌++◌, ◌∷◌, [], length, slice_get, IsSome, Some, None, sum_by, subst, sym, ◌∙◌, ap}
use Rattle.std.proofs.Common.{arith}
use Rattle.std.specs.Prelude.{nat_eq, reverse}
use Rattle.std.specs.HashMap.{get}
use Rattle.std.proofs.lemmas.Grind.{common_steps}
use Rattle.larch_verify_pool.specs.Exchanging.{image_by, image_in}
use Rattle.larch_verify_pool.specs.Pooled.{tree_in, no_tree, node_tree, StandsBehind}
use Rattle.larch_verify_pool.specs.Tasks.{effort}
use Rattle.larch_verify_pool.specs.declared.exchanging.Task.TheVariants.{Rebuild}
use Rattle.larch_verify_pool.specs.declared.node.PoolNode.TheVariants.{App}
use Rattle.larch_verify_pool.proofs.Exchanges.{done_more, kept, told_image}
use Rattle.larch_verify_pool.proofs.Front.{front_at}
use Rattle.larch_verify_pool.proofs.Tasks.{application_waits, arguments_within, effort_falls, effort_visited}
use Rattle.larch_verify_pool.proofs.Tasks.{tasks_done, tasks_put}
use Rattle.larch_verify_pool.proofs.exchanging.visit.Goals as goal

pub returns-then-contains_key-clause-tasks : goal.returns-then-contains_key-clause-tasks
returns-then-contains_key-clause-tasks c = λ t le h.
    let s : IsSome (get nat_eq c.args.done.now c.args.number) = grind (arith, common_steps) in
    tasks_done c.args.pool.now.trees c.args.rule.now t c.args.number (get nat_eq c.args.done.now)
    (reverse c.args.tasks.now.items) s h

pub returns-then-contains_key-clause-effort : goal.returns-then-contains_key-clause-effort
returns-then-contains_key-clause-effort c =
    effort_visited c.args.pool.now.trees c.args.number (reverse c.args.tasks.now.items)

pub returns-in-Some-clause-right : goal.returns-in-Some-clause-right
returns-in-Some-clause-right c = λ us F front lt ex right.
    let image : image_by c.args.rule.now c.args.number (tree_in c.args.pool.now.trees c.args.number)
    ≡ Some c.in-Some.image = grind (arith, common_steps) in
    let is : image_in us c.args.rule.now c.args.number ≡ Some c.in-Some.image =
    ap (image_by c.args.rule.now c.args.number)
    (sym (front_at us c.args.pool.now.trees c.args.number no_tree front lt)) ∙ image in
    done_more (λ q r. slice_get c.args.pool.now.trees r ≡ Some (F (tree_in us q))) (get nat_eq c.args.done.now)
    (get nat_eq c.insert.new.self) c.args.number c.in-Some.image c.in_ok-insert.ensures.updates.0
    (told_image us c.args.pool.now.trees F (image_in us c.args.rule.now) c.args.number c.in-Some.image front lt ex is)
    right

pub returns-in-Some-clause-tasks : goal.returns-in-Some-clause-tasks
returns-in-Some-clause-tasks c = λ t le h.
    tasks_put c.args.pool.now.trees c.args.rule.now t c.args.number c.in-Some.image (get nat_eq c.args.done.now)
    (get nat_eq c.insert.new.self) (reverse c.args.tasks.now.items) c.in_ok-insert.ensures.updates.0 h

pub returns-in-Some-clause-effort : goal.returns-in-Some-clause-effort
returns-in-Some-clause-effort c =
    effort_visited c.args.pool.now.trees c.args.number (reverse c.args.tasks.now.items)

pub returns-in_ok-insert-in-Var-clause-right : goal.returns-in_ok-insert-in-Var-clause-right
returns-in_ok-insert-in-Var-clause-right c = λ us F front lt ex right.
    let missed : image_by c.args.rule.now c.args.number (tree_in c.args.pool.now.trees c.args.number) ≡ None =
    grind (arith, common_steps) in
    let miss : image_in us c.args.rule.now c.args.number ≡ None =
    ap (image_by c.args.rule.now c.args.number)
    (sym (front_at us c.args.pool.now.trees c.args.number no_tree front lt)) ∙ missed in
    done_more (λ q r. slice_get c.args.pool.now.trees r ≡ Some (F (tree_in us q))) (get nat_eq c.args.done.now)
    (get nat_eq c.insert-in-Var.new.self) c.args.number c.args.number c.in_ok-insert-in-Var.ensures.updates.0
    (kept c.args.pool.now.operators us c.args.pool.now.trees F (image_in us c.args.rule.now) c.args.number
    c.in-Var.field-0 c.in-Var.field-1 front lt
    (ap (node_tree c.args.pool.now.operators c.args.pool.now.trees) (sym c.in-Var.is) ∙ c.node.ensures.tree) ex miss)
    right

pub returns-in_ok-insert-in-Var-clause-tasks : goal.returns-in_ok-insert-in-Var-clause-tasks
returns-in_ok-insert-in-Var-clause-tasks c = λ t le h.
    tasks_put c.args.pool.now.trees c.args.rule.now t c.args.number c.args.number (get nat_eq c.args.done.now)
    (get nat_eq c.insert-in-Var.new.self) (reverse c.args.tasks.now.items) c.in_ok-insert-in-Var.ensures.updates.0 h

-- the node is an application to these numbers
node_is : (c : goal.In_ok-push_missing-in-App) → c.node.result.now ≡ App c.in-App.field-0 c.as_slice.result.now
node_is c = c.in-App.is ∙ ap (App c.in-App.field-0) (sym c.as_slice.ensures)

tree_is : (c : goal.In_ok-push_missing-in-App)
    → node_tree c.args.pool.now.operators c.args.pool.now.trees (App c.in-App.field-0 c.as_slice.result.now)
    ≡ tree_in c.args.pool.now.trees c.args.number
tree_is c = ap (node_tree c.args.pool.now.operators c.args.pool.now.trees) (sym (node_is c)) ∙ c.node.ensures.tree

pub returns-in_ok-push_missing-in-App-clause-tasks : goal.returns-in_ok-push_missing-in-App-clause-tasks
returns-in_ok-push_missing-in-App-clause-tasks c = λ t le h.
    let missed : image_in c.args.pool.now.trees c.args.rule.now c.args.number ≡ None = grind (arith, common_steps) in
    let p : c.push.new.self.items ≡ c.args.tasks.now.items ++ Rebuild c.args.number ∷ [] =
    grind (arith, common_steps) in
    let s : StandsBehind (length c.args.pool.now.operators) c.args.number
    (App c.in-App.field-0 c.as_slice.result.now) =
    subst (StandsBehind (length c.args.pool.now.operators) c.args.number) (node_is c) c.node.ensures.stands in
    c.in_ok-push_missing-in-App.ensures.tasks c.args.pool.now.trees c.args.rule.now t []
    (arguments_within c.args.pool.now.operators c.args.number c.in-App.field-0 t c.as_slice.result.now s le)
    (application_waits c.args.pool.now.operators c.args.pool.now.trees c.args.rule.now t c.args.number
    c.in-App.field-0 (get nat_eq c.args.done.now) c.as_slice.result.now c.args.tasks.now.items c.push.new.self.items
    c.are_apart.ensures c.requires.number (tree_is c) s missed p le h)

pub returns-in_ok-push_missing-in-App-clause-effort : goal.returns-in_ok-push_missing-in-App-clause-effort
returns-in_ok-push_missing-in-App-clause-effort c =
    let p : c.push.new.self.items ≡ c.args.tasks.now.items ++ Rebuild c.args.number ∷ [] =
    grind (arith, common_steps) in
    effort_falls c.args.pool.now.operators c.args.pool.now.trees c.args.number c.in-App.field-0
    (sum_by (effort c.args.pool.now.trees) (reverse c.push_missing.new.tasks.items)) c.as_slice.result.now
    c.args.tasks.now.items c.push.new.self.items (tree_is c) p
    (c.in_ok-push_missing-in-App.ensures.effort c.args.pool.now.trees)
