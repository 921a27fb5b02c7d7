use Rattle.std.proofs.Common.{◌≡◌, drop}
use Rattle.larch_rewrite_match.specs.Bound.{entries_of}
use Rattle.larch_term.specs.Substitution.{image}
use Rattle.larch_rewrite_step.proofs.making.image.Given as goal

-- the bindings so far aren't the variable's
abbrev pub invariant-loop-bound : goal.invariant-loop-bound
invariant-loop-bound l =
    image (entries_of (drop l.bound-index l.by)) l.name l.sort ≡ image (entries_of l.by) l.name l.sort
