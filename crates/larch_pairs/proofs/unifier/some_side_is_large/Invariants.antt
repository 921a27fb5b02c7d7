use Rattle.std.proofs.Common.{◌≡◌, ◌||◌, drop}
use Rattle.std.specs.List.{list_any}
use Rattle.larch_pairs.specs.Unify.{is_large, sides_under}
use Rattle.larch_pairs.proofs.unifier.some_side_is_large.Given as goal

-- no side so far is too large
abbrev pub invariant-loop-sides : goal.invariant-loop-sides
invariant-loop-sides l =
    list_any (λ e. is_large e.left || is_large e.right) (sides_under l.by (drop l.sides-index l.equations))
    ≡ list_any (λ e. is_large e.left || is_large e.right) (sides_under l.by l.equations)
