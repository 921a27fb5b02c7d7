use Rattle.std.proofs.Common.{◌≡◌, ◌+◌, ◌≤◌, drop, length}
use Rattle.larch_flat_meaning.specs.Replacements.{plain_forms}
use Rattle.larch_flat_replacing.proofs.replacing.count_plain.Given as goal

-- the forms so far, with those that are left, are all; there are no more than actuals
abbrev pub invariant-loop-actual : goal.invariant-loop-actual
invariant-loop-actual l =
    (l.count + length (plain_forms (drop l.actual-index l.actuals)) ≡ length (plain_forms l.actuals))
    × (l.count ≤ l.actual-index)
