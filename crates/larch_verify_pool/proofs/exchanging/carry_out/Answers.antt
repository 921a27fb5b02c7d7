use Rattle.std.proofs.Common.{◌<◌, [], length, subst, sym, ◌∙◌, ap}
use Rattle.std.specs.Prelude.{nat_eq, reverse}
use Rattle.std.specs.HashMap.{get}
use Rattle.larch_verify_pool.specs.Exchanging.{image_by, image_in}
use Rattle.larch_verify_pool.specs.Pooled.{no_tree}
use Rattle.larch_verify_pool.specs.Tasks.{IsReady, number_of}
use Rattle.larch_verify_pool.specs.declared.exchanging.Task.TheVariants.{Rebuild}
use Rattle.larch_verify_pool.proofs.Front.{front_at}
use Rattle.larch_verify_pool.proofs.Tasks.{tasks_rebuilt, effort_rebuilt}
use Rattle.larch_verify_pool.proofs.exchanging.carry_out.Goals as goal

pub returns-in_ok-visit-in-Visit-clause-right : goal.returns-in_ok-visit-in-Visit-clause-right
returns-in_ok-visit-in-Visit-clause-right c = λ us F front lt ex right.
    c.in_ok-visit-in-Visit.ensures.right us F front (subst (λ w. number_of w < length us) c.in-Visit.is lt) ex right

pub returns-in_ok-rebuild-in-Rebuild-clause-right : goal.returns-in_ok-rebuild-in-Rebuild-clause-right
returns-in_ok-rebuild-in-Rebuild-clause-right c = λ us F front lt ex right.
    let l : c.in-Rebuild.number < length us = subst (λ w. number_of w < length us) c.in-Rebuild.is lt in
    let ready : IsReady c.args.pool.now.trees c.args.rule.now (get nat_eq c.args.done.now) []
    (Rebuild c.in-Rebuild.number) =
    subst (IsReady c.args.pool.now.trees c.args.rule.now (get nat_eq c.args.done.now) []) c.in-Rebuild.is
    c.requires.ready in
    c.in_ok-rebuild-in-Rebuild.ensures.right us (image_in us c.args.rule.now) F front l ex
    (ap (image_by c.args.rule.now c.in-Rebuild.number)
    (sym (front_at us c.args.pool.now.trees c.in-Rebuild.number no_tree front l)) ∙ ready.0) right

pub returns-in_ok-rebuild-in-Rebuild-clause-tasks : goal.returns-in_ok-rebuild-in-Rebuild-clause-tasks
returns-in_ok-rebuild-in-Rebuild-clause-tasks c = λ t lt h.
    tasks_rebuilt c.args.pool.now.trees c.rebuild.new.pool.trees c.args.rule.now t c.in-Rebuild.number
    (get nat_eq c.args.done.now) (get nat_eq c.rebuild.new.done) c.args.task (reverse c.args.tasks.now.items)
    c.in_ok-rebuild-in-Rebuild.ensures.grows.1 lt c.in-Rebuild.is c.in_ok-rebuild-in-Rebuild.ensures.due h

pub returns-in_ok-rebuild-in-Rebuild-clause-effort : goal.returns-in_ok-rebuild-in-Rebuild-clause-effort
returns-in_ok-rebuild-in-Rebuild-clause-effort c = λ t lt h.
    effort_rebuilt c.args.pool.now.trees c.rebuild.new.pool.trees c.args.rule.now t c.in-Rebuild.number
    (get nat_eq c.args.done.now) c.args.task (reverse c.args.tasks.now.items)
    c.in_ok-rebuild-in-Rebuild.ensures.grows.1 lt c.in-Rebuild.is h
