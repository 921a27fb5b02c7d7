use Rattle.std.proofs.Common.{◌≡◌, filter, map, take}
use Rattle.larch_renaming.specs.Renaming.{renamed_statement}
use Rattle.larch_flat_meaning.specs.Gathered.{statements_in}
use Rattle.larch_flat_meaning.specs.Replacements.{renaming}
use Rattle.larch_duties_meaning.specs.Conversions.{names_one_of}
use Rattle.larch_duties.proofs.clause.copied_in.Given as goal

-- the statements so far
abbrev pub invariant-loop-index : goal.invariant-loop-index
invariant-loop-index l =
    l.copied ≡ map (renamed_statement (renaming l.names))
    (filter (names_one_of l.among) (statements_in (take l.index l.marked)))
