use Rattle.std.proofs.Common.{map, take}
use Rattle.larch_flat_meaning.specs.Files.{target}
use Rattle.larch_flat_sources.specs.Building.{AreLinksSoFar}
use Rattle.larch_flat_sources.proofs.building.link_file.Given as goal

-- the files that the references before this one name are linked
abbrev pub invariant-loop-reference : goal.invariant-loop-reference
invariant-loop-reference l =
    AreLinksSoFar l.sources l.number (map target (take l.reference-index l.reference-items)) l.referring.items
