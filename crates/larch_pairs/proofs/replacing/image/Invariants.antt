use Rattle.std.proofs.Common.{◌≡◌, drop}
use Rattle.larch_term.specs.Substitution.{image}
use Rattle.larch_pairs.proofs.replacing.image.Given as goal

-- the entries so far aren't the variable's
abbrev pub invariant-loop-entry : goal.invariant-loop-entry
invariant-loop-entry l = image (drop l.entry-index l.by) l.name l.sort ≡ image l.by l.name l.sort
