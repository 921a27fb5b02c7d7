use Rattle.std.proofs.Common.{◌≡◌, get_or}
use Rattle.larch_flat_sources.specs.Links.{referring}
use Rattle.larch_flat_sources.proofs.Searched.{Visiting}
use Rattle.larch_flat_sources.proofs.search.mark_referring.Given as goal

-- the search has come so far, and what was looked at is marked
abbrev pub invariant-loop-number : goal.invariant-loop-number
invariant-loop-number l =
    Visiting l.links l.marked.items l.found.items l.next (get_or l.initial.found.items l.next 0)
    (get_or l.initial.found.items 0 0) l.number-index
    × (l.numbers ≡ referring l.links (get_or l.initial.found.items l.next 0))
