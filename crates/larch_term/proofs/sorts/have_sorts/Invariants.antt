use Rattle.std.proofs.Common.{◌≡◌, ◌↔◌, drop}
use Rattle.larch_term.specs.Sorts.{sorts_of}
use Rattle.larch_term.specs.Tree.{forest_of}
use Rattle.larch_term.proofs.sorts.have_sorts.Given as goal

-- all terms have all sorts exactly where those that are left have those that are left
abbrev pub invariant-loop-i : goal.invariant-loop-i
invariant-loop-i l =
    (sorts_of (forest_of (drop l.i l.terms)) ≡ drop l.i l.sorts) ↔ (sorts_of (forest_of l.terms) ≡ l.sorts)
