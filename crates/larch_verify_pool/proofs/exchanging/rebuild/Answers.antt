use Rattle.std.proofs.Common.{◌≡◌, ◌<◌, length, sym, ◌∙◌, ap, subst, Some, slice_get}
use Rattle.std.specs.Prelude.{nat_eq}
use Rattle.std.specs.HashMap.{get}
use Rattle.std.proofs.lemmas.Option.{slice_get_within}
use Rattle.larch_verify_pool.specs.Pooled.{tree_in, node_tree, StandsBehind}
use Rattle.larch_verify_pool.specs.declared.node.PoolNode.TheVariants.{App}
use Rattle.larch_verify_pool.proofs.Exchanges.{done_more, exchanged_stays, ready_within, rebuilt, within_stays}
use Rattle.larch_verify_pool.proofs.Tasks.{arguments_done}
use Rattle.larch_verify_pool.proofs.exchanging.rebuild.Goals as goal

pub images_of-requires : goal.images_of-requires
images_of-requires c =
    let is : c.node.result.now ≡ App c.in-App.operator c.as_slice.result.now =
    c.in-App.is ∙ ap (App c.in-App.operator) (sym c.as_slice.ensures) in
    arguments_done c.args.pool.now.operators c.args.pool.now.trees (get nat_eq c.args.done.now) c.args.number
    c.in-App.operator c.as_slice.result.now
    (ap (node_tree c.args.pool.now.operators c.args.pool.now.trees) (sym is) ∙ c.node.ensures.tree)
    (subst (StandsBehind (length c.args.pool.now.operators) c.args.number) is c.node.ensures.stands)
    c.requires.arguments

pub apply-requires-clause-arguments : goal.apply-requires-clause-arguments
apply-requires-clause-arguments c =
    ready_within c.args.pool.now.trees (get nat_eq c.args.done.now) c.as_slice.result.now c.in_ok-images.images
    c.requires.within c.in_ok-images.ensures

pub returns-clause-within : goal.returns-clause-within
returns-clause-within c =
    done_more (λ q r. r < length c.apply.new.self.trees) (get nat_eq c.args.done.now)
    (get nat_eq c.insert.new.self) c.args.number c.in_ok-made.made c.in_ok-insert.ensures.updates.0
    (slice_get_within c.apply.new.self.trees c.in_ok-made.made _ c.in_ok-made.ensures.tree)
    (within_stays c.args.pool.now.trees c.apply.new.self.trees
    (get nat_eq c.args.done.now) c.in_ok-made.ensures.grows.1 c.requires.within)

pub returns-clause-right : goal.returns-clause-right
returns-clause-right c = λ us table F front lt ex miss right.
    let is : c.node.result.now ≡ App c.in-App.operator c.as_slice.result.now =
    c.in-App.is ∙ ap (App c.in-App.operator) (sym c.as_slice.ensures) in
    done_more (λ q r. slice_get c.apply.new.self.trees r ≡ Some (F (tree_in us q))) (get nat_eq c.args.done.now)
    (get nat_eq c.insert.new.self) c.args.number c.in_ok-made.made c.in_ok-insert.ensures.updates.0
    (c.in_ok-made.ensures.tree ∙ ap Some
    (sym (rebuilt c.args.pool.now.operators us c.args.pool.now.trees F table (get nat_eq c.args.done.now) c.args.number
    c.in-App.operator c.as_slice.result.now c.in_ok-images.images front lt
    (ap (node_tree c.args.pool.now.operators c.args.pool.now.trees) (sym is) ∙ c.node.ensures.tree)
    (subst (StandsBehind (length c.args.pool.now.operators) c.args.number) is c.node.ensures.stands) ex miss right
    c.in_ok-images.ensures)))
    (exchanged_stays us c.args.pool.now.trees c.apply.new.self.trees F (get nat_eq c.args.done.now)
    c.in_ok-made.ensures.grows.1 right)
