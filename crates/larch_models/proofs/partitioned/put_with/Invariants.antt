use Rattle.std.proofs.Common.{◌≡◌, ◌+◌, ◌++◌, drop}
use Rattle.larch_models_meaning.specs.Models.{with_value}
use Rattle.larch_models.proofs.partitioned.put_with.Given as goal

abbrev pub invariant-loop-i : goal.invariant-loop-i
invariant-loop-i l =
    l.into.items ++ with_value l.place l.shown (l.i + 1) (drop l.i l.values)
    ≡ with_value l.place l.shown 1 l.values
