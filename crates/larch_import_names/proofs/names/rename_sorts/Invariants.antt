use Rattle.std.proofs.Common.{◌≡◌, map, take}
use Rattle.larch_import_names.specs.Names.{sort_or}
use Rattle.larch_import_names.proofs.names.rename_sorts.Given as goal

-- the sorts so far are new
abbrev pub invariant-loop-sort : goal.invariant-loop-sort
invariant-loop-sort l = l.new ≡ map (sort_or (λ s. s) l.by) (take l.sort-index l.sorts)
