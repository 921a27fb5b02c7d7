use Rattle.std.proofs.Common.{◌≡◌, ◌++◌, ◌+◌, drop}
use Rattle.larch_shorthand.specs.Tuple.{components_of}
use Rattle.larch_shorthand.proofs.tuple.components_of.Given as goal

-- those so far, and those of the fields that are left
abbrev pub invariant-loop-i : goal.invariant-loop-i
invariant-loop-i l =
    l.components ++ components_of l.sort (l.i + 1) (drop l.i l.fields) ≡ components_of l.sort 1 l.fields
