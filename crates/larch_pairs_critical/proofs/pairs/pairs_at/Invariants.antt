use Rattle.std.proofs.Common.{◌≡◌, [], drop}
use Rattle.larch_pairs_critical.specs.Pairs.{with_pairs_at}
use Rattle.larch_pairs_critical.proofs.pairs.pairs_at.Given as goal

-- the pairs so far and those at the places that are left are all
abbrev pub invariant-loop-place : goal.invariant-loop-place
invariant-loop-place l =
    with_pairs_at l.one l.two l.found (drop l.place-index l.places) ≡ with_pairs_at l.one l.two [] l.places
