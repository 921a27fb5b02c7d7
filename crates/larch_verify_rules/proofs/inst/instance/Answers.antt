use Rattle.std.proofs.Common.{◌≡◌, ◌∙◌}
use Rattle.larch_term.specs.Substitution.{instance_of}
use Rattle.larch_term.specs.declared.statement.Statement.TheVariants.{Equation}
use Rattle.larch_verify_pool.specs.Pooled.{tree_in}
use Rattle.larch_verify_pool.specs.Substitution.{entries_of}
use Rattle.larch_verify_parts.proofs.Numbers.{tree_later, has_tree, has_tree_later, entries_later}
use Rattle.larch_verify_rules.proofs.inst.instance.Goals as goal

pub returns-clause-says : goal.returns-clause-says
returns-clause-says c =
    let l : tree_in c.substitute-2.new.pool.trees c.in_ok-left.left
    ≡ instance_of (entries_of c.args.pool.now.trees c.args.by.now) (tree_in c.args.pool.now.trees c.args.sides.left) =
    has_tree_later c.substitute.new.pool c.substitute-2.new.pool c.in_ok-left.left
    (instance_of (entries_of c.args.pool.now.trees c.args.by.now) (tree_in c.args.pool.now.trees c.args.sides.left))
    c.in_ok-right.ensures.grows c.in_ok-left.ensures.tree in
    let r : tree_in c.substitute-2.new.pool.trees c.in_ok-right.right
    ≡ instance_of (entries_of c.args.pool.now.trees c.args.by.now) (tree_in c.args.pool.now.trees c.args.sides.right) =
    has_tree c.substitute-2.new.pool c.in_ok-right.right
    (instance_of (entries_of c.substitute.new.pool.trees c.args.by.now)
    (tree_in c.substitute.new.pool.trees c.args.sides.right))
    c.in_ok-right.ensures.tree
    ∙
    (λ i. instance_of (entries_later c.args.pool.now c.substitute.new.pool c.args.by.now c.in_ok-left.ensures.grows
    c.requires.by i)
    (tree_later c.args.pool.now c.substitute.new.pool c.args.sides.right c.in_ok-left.ensures.grows
    c.requires.sides.1 i)) in
    λ i. Equation (l i) (r i)
