use Rattle.std.proofs.Common.{◌≡◌, map, take}
use Rattle.larch_flat_meaning.specs.Replacements.{new_sort}
use Rattle.larch_flat_replacing.proofs.replacements.Replacements.domain.Given as goal

-- the sorts so far are new
abbrev pub invariant-loop-sort : goal.invariant-loop-sort
invariant-loop-sort l = l.new ≡ map (new_sort l.self) (take l.sort-index l.sorts)
