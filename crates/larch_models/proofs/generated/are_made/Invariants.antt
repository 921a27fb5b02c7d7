use Rattle.std.proofs.Common.{◌≡◌, drop}
use Rattle.larch_models.specs.Clauses.{arguments_among}
use Rattle.larch_models.proofs.generated.are_made.Given as goal

abbrev pub invariant-loop-i : goal.invariant-loop-i
invariant-loop-i l =
    arguments_among (drop l.i l.own) l.made (drop l.i l.values) ≡ arguments_among l.own l.made l.values
