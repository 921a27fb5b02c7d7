use Rattle.std.proofs.Common.{◌≡◌, ◌+◌, ◌++◌, drop}
use Rattle.larch_duties_meaning.specs.Listing.{listed_marked}
use Rattle.larch_duties.proofs.printing.write_marked.Given as goal

-- what is written and what is left to write are all
abbrev pub invariant-loop-index : goal.invariant-loop-index
invariant-loop-index l =
    l.text ++ listed_marked (l.index + 1) (drop l.index l.marked) ≡ l.initial.text ++ listed_marked 1 l.marked
