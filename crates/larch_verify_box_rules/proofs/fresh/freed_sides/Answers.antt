use Rattle.std.proofs.Common.{map, sym, ◌∙◌}
use Rattle.std.proofs.lemmas.List.{length-map}
use Rattle.larch_verify_meaning.specs.Matching.{variable_of}
use Rattle.larch_verify_pool.specs.Freeing.{freed_by}
use Rattle.larch_verify_pool.specs.Pooled.{tree_in, Grows}
use Rattle.larch_verify_pool.proofs.Front.{grows_trans, trees_stay}
use Rattle.larch_verify_parts.proofs.Numbers.{has_tree, has_tree_later, tree_later}
use Rattle.larch_verify_box_rules.proofs.Freed.{sides_freed}
use Rattle.larch_verify_box_rules.proofs.fresh.freed_sides.Goals as goal

pub returns-clause-says : goal.returns-clause-says
returns-clause-says c ps n =
    let g : Grows c.args.pool.now c.freed_side.new.pool =
    grows_trans c.args.pool.now c.variable_numbers.new.pool c.freed_side.new.pool c.in_ok-images.ensures.grows
    c.in_ok-left.ensures.grows in
    sides_freed c.variable_numbers.new.pool.trees c.freed_side.new.pool.trees c.args.of_box ps
    (map variable_of c.args.variables.now) c.in_ok-images.images.items
    (tree_in c.args.pool.now.trees c.args.sides.left) (tree_in c.args.pool.now.trees c.args.sides.right)
    (tree_in c.freed_side-2.new.pool.trees c.in_ok-left.left)
    (tree_in c.freed_side-2.new.pool.trees c.in_ok-right.right)
    (n ∙ sym (length-map c.args.variables.now variable_of))
    c.in_ok-images.ensures.trees
    (trees_stay c.variable_numbers.new.pool.trees c.freed_side.new.pool.trees c.in_ok-images.images.items
    c.in_ok-left.ensures.grows.1 c.in_ok-images.ensures.within
    ∙ c.in_ok-images.ensures.trees)
    (has_tree_later c.freed_side.new.pool c.freed_side-2.new.pool c.in_ok-left.left
    (freed_by c.variable_numbers.new.pool.trees c.args.of_box 1 c.deref.result.now
    (tree_in c.variable_numbers.new.pool.trees c.args.sides.left))
    c.in_ok-right.ensures.grows c.in_ok-left.ensures.tree
    ∙ (λ i. freed_by c.variable_numbers.new.pool.trees c.args.of_box 1 (c.deref.ensures.value i)
    (tree_later c.args.pool.now c.variable_numbers.new.pool c.args.sides.left c.in_ok-images.ensures.grows
    c.requires.0 i)))
    (has_tree c.freed_side-2.new.pool c.in_ok-right.right
    (freed_by c.freed_side.new.pool.trees c.args.of_box 1 c.deref-2.result.now
    (tree_in c.freed_side.new.pool.trees c.args.sides.right)) c.in_ok-right.ensures.tree
    ∙ (λ i. freed_by c.freed_side.new.pool.trees c.args.of_box 1 (c.deref-2.ensures.value i)
    (tree_later c.args.pool.now c.freed_side.new.pool c.args.sides.right g c.requires.1 i)))
