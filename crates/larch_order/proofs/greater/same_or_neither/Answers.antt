-- The test tells exactly what is equal.
use Rattle.std.proofs.Common.{refl, sym, ◌∙◌}
use Rattle.larch_term.proofs.Decided.{trees_told}
use Rattle.larch_order.proofs.greater.same_or_neither.Goals as goal

pub returns-then-same_term : goal.returns-then-same_term
returns-then-same_term c =
    rw (sym (trees_told c.args.left.now c.args.right.now c.same_term.result c.same_term.ensures) ∙ c.if-same_term.true)
    refl

pub returns-else-same_term : goal.returns-else-same_term
returns-else-same_term c =
    rw (sym (trees_told c.args.left.now c.args.right.now c.same_term.result c.same_term.ensures) ∙ c.if-same_term.false)
    refl
