use Rattle.std.proofs.Common.{◌≡◌, None, drop}
use Rattle.larch_models.specs.Stacks.{place_among}
use Rattle.larch_models.proofs.program.number_of.Given as goal

abbrev pub invariant-loop-i : goal.invariant-loop-i
invariant-loop-i l =
    place_among l.i (drop l.i l.variables) l.name l.sort l.found ≡ place_among 0 l.variables l.name l.sort None
