use Rattle.std.proofs.Common.{◌≡◌, map, take}
use Rattle.larch_import_names.specs.Names.{renaming}
use Rattle.larch_import_meaning.specs.Imported.{number_among}
use Rattle.larch_import.proofs.numbers.numbers_of.Given as goal

-- the numbers so far are those of new names
abbrev pub invariant-loop-operator : goal.invariant-loop-operator
invariant-loop-operator l =
    l.numbers ≡ map (λ f. number_among l.others ((renaming l.by).operator f)) (take l.operator-index l.operators)
