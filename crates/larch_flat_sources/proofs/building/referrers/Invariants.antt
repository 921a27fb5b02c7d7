use Rattle.std.proofs.Common.{[]}
use Rattle.larch_flat_sources.specs.Building.{AreLinksSoFar}
use Rattle.larch_flat_sources.proofs.building.referrers.Given as goal

-- the links of the files before this one
abbrev pub invariant-loop-number : goal.invariant-loop-number
invariant-loop-number l = AreLinksSoFar l.sources l.number [] l.referring.items
