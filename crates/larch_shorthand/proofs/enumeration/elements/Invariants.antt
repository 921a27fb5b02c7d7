use Rattle.std.proofs.Common.{◌≡◌, take}
use Rattle.larch_shorthand.specs.Enumeration.{elements}
use Rattle.larch_shorthand.proofs.enumeration.elements.Given as goal

-- the constants so far
abbrev pub invariant-loop-name : goal.invariant-loop-name
invariant-loop-name l = l.elements ≡ elements l.sort (take l.name-index l.names)
