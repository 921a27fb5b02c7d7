use Rattle.std.proofs.Common.{◌≡◌, drop}
use Rattle.larch_term.specs.Place.{at}
use Rattle.larch_term.proofs.place.at.Given as goal

-- what is left of the place leads from here to where the place leads
abbrev pub invariant-loop-number : goal.invariant-loop-number
invariant-loop-number l = at l.here (drop l.number-index l.place) ≡ at l.term l.place
