use Rattle.std.proofs.Common.{◌≡◌, map, take}
use Rattle.larch_verify_meaning.specs.RenamingRenaming.{renamed_statement}
use Rattle.larch_import_names.specs.Names.{renaming}
use Rattle.larch_import_places.specs.Places.{place_among}
use Rattle.larch_import_places.proofs.places.places_of.Given as goal

-- the places so far are those of statements by new names
abbrev pub invariant-loop-statement : goal.invariant-loop-statement
invariant-loop-statement l =
    l.places
    ≡ map (λ s. place_among l.others (renamed_statement (renaming l.by) s)) (take l.statement-index l.statements)
