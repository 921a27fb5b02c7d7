use Rattle.std.proofs.Common.{Some, ◌∙◌, subst}
use Rattle.std.specs.Prelude.{IfSome}
use Rattle.larch_term.specs.Place.{put}
use Rattle.larch_term.specs.declared.statement.Statement.TheVariants.{Equation}
use Rattle.larch_verify_pool.specs.Pooled.{tree_in, HasTree}
use Rattle.larch_verify_parts.proofs.Numbers.{within_later, tree_later, has_within, has_tree}
use Rattle.larch_verify_rules.proofs.Replacing.{replaced_not, replaced_yes}
use Rattle.larch_verify_rules.proofs.repl.replace_side.Goals as goal

pub returns-then-not-same-clause-says : goal.returns-then-not-same-clause-says
returns-then-not-same-clause-says c =
    replaced_not (tree_in c.args.pool.now.trees c.args.changed.left)
    (tree_in c.args.pool.now.trees c.args.changed.right)
    (tree_in c.args.pool.now.trees c.args.by.left) (tree_in c.args.pool.now.trees c.args.by.right)
    (tree_in c.args.pool.now.trees c.in-Some.there)
    c.args.place.now c.same.result c.in-Some.ensures.tree c.same.ensures c.if-not-same.true

pub returns-clause-within : goal.returns-clause-within
returns-clause-within c = (
  within_later c.args.pool.now c.replace_at.new.pool c.args.changed.left c.in_ok-right.ensures.grows
      c.requires.changed.0,
  has_within c.replace_at.new.pool c.in-Some-right.right
      (put (tree_in c.args.pool.now.trees c.args.changed.right) c.args.place.now
      (tree_in c.args.pool.now.trees c.args.by.right))
      (subst
      (λ o. IfSome o (λ n. HasTree c.replace_at.new.pool n
      (put (tree_in c.args.pool.now.trees c.args.changed.right) c.args.place.now
      (tree_in c.args.pool.now.trees c.args.by.right)))) c.in-Some-right.is c.in_ok-right.ensures.some),
)

pub returns-clause-says : goal.returns-clause-says
returns-clause-says c =
    (λ i.
    Some
    (Equation (tree_later c.args.pool.now c.replace_at.new.pool c.args.changed.left c.in_ok-right.ensures.grows
    c.requires.changed.0 i)
    (has_tree c.replace_at.new.pool c.in-Some-right.right
    (put (tree_in c.args.pool.now.trees c.args.changed.right) c.args.place.now
    (tree_in c.args.pool.now.trees c.args.by.right))
    (subst
    (λ o. IfSome o (λ n. HasTree c.replace_at.new.pool n
    (put (tree_in c.args.pool.now.trees c.args.changed.right) c.args.place.now
    (tree_in c.args.pool.now.trees c.args.by.right)))) c.in-Some-right.is c.in_ok-right.ensures.some) i)))
    ∙ replaced_yes (tree_in c.args.pool.now.trees c.args.changed.left)
    (tree_in c.args.pool.now.trees c.args.changed.right)
    (tree_in c.args.pool.now.trees c.args.by.left) (tree_in c.args.pool.now.trees c.args.by.right)
    (tree_in c.args.pool.now.trees c.in-Some.there)
    c.args.place.now c.same.result c.in-Some.ensures.tree c.same.ensures c.if-not-same.false
