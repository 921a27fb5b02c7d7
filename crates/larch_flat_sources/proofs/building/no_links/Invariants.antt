use Rattle.std.proofs.Common.{◌≡◌, [], replicate}
use Rattle.larch_flat_sources.proofs.building.no_links.Given as goal

abbrev pub invariant-loop-number : goal.invariant-loop-number
invariant-loop-number l = l.referring.items ≡ replicate l._number []
