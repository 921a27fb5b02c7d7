use Rattle.std.proofs.Common.{◌≡◌, ◌-◌, get_or, length}
use Rattle.larch_flat_sources.specs.Search.{Searching}
use Rattle.larch_flat_sources.proofs.search.marked_from.Given as goal

-- the search has come so far, from the number
abbrev pub invariant-loop-next : goal.invariant-loop-next
invariant-loop-next l = Searching l.links l.marked.items l.found.items l.next × (get_or l.found.items 0 0 ≡ l.number)

abbrev pub decreases-loop-next : goal.decreases-loop-next
decreases-loop-next l = length l.links - l.next
