use Rattle.std.proofs.Common.{◌≡◌, drop}
use Rattle.larch_models.specs.Tables.{place_by}
use Rattle.larch_models.proofs.maker.place.Given as goal

abbrev pub invariant-loop-i : goal.invariant-loop-i
invariant-loop-i l = place_by (drop l.i l.lasts) l.place (drop l.i l.arguments) ≡ place_by l.lasts 0 l.arguments
