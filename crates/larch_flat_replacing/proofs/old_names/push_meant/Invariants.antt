use Rattle.std.proofs.Common.{◌≡◌, ◌++◌, drop, filter}
use Rattle.larch_flat_meaning.specs.TraitsItemsReferences.{is_meant}
use Rattle.larch_flat_replacing.proofs.old_names.push_meant.Given as goal

-- those so far, with those that are left, are all
abbrev pub invariant-loop-operator : goal.invariant-loop-operator
invariant-loop-operator l =
    l.meant ++ filter (is_meant l.exact l.name) (drop l.operator-index l.operators)
    ≡ l.initial.meant ++ filter (is_meant l.exact l.name) l.operators
