use Rattle.std.proofs.Common.{ℕ, ◌+◌, List, length, map}
use Rattle.std.specs.Prelude.{reverse}
use Rattle.larch_flat_meaning.specs.Reached.{AreReached, Visits}
use Rattle.larch_flat_sources.specs.Reaching.{references_left}
use Rattle.larch_flat_sources.specs.Sources.{files_in}
use Rattle.larch_flat_sources.proofs.reaching.reached.Given as goal

-- what is visited in the end from here on is all that is reached
abbrev pub invariant-loop-next : goal.invariant-loop-next
invariant-loop-next l =
    (all : List (List ℕ)) → Visits (files_in l.sources) l.seen.keys (reverse (map (λ n. n.now) l.waiting.items)) all
    → AreReached (files_in l.sources) l.name all

-- what waits, and the references that are left
abbrev pub decreases-loop-next : goal.decreases-loop-next
decreases-loop-next l = references_left l.sources l.seen.keys + length l.waiting.items
