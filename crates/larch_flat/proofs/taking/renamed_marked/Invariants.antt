use Rattle.std.proofs.Common.{◌≡◌, drop, map}
use Rattle.std.specs.Prelude.{fold}
use Rattle.larch_flat_sources.specs.FlatMeaningFlat.{renamed_mark, renamed_marked, with_mark}
use Rattle.larch_flat.proofs.taking.renamed_marked.Given as goal

-- the statements so far, with those that are left, are all
abbrev pub invariant-loop-index : goal.invariant-loop-index
invariant-loop-index l =
    fold with_mark l.renamed (map (renamed_mark l.names) (drop l.index l.marked)) ≡ renamed_marked l.names l.marked
