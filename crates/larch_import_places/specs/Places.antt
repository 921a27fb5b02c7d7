-- Where a theory has what another one has, by new names.
use Rattle.std.specs.Prelude.{ℕ, suc, List, map, position}
use Rattle.std.specs.Option.{option_map_or}
use Rattle.larch_term.specs.Equality.{same_statement}
use Rattle.larch_term.specs.declared.statement.Statement.{Statement}
use Rattle.larch_term.specs.declared.statement.Theory.{Theory}
use Rattle.larch_verify_meaning.specs.RenamingRenaming.{renamed_statement}
use Rattle.larch_import_names.specs.Names.{renaming}
use Rattle.larch_import_names.specs.declared.pairs.Renaming.{Renaming}

-- the number of a statement among others, counted from 1; nothing has the number 0
abbrev pub place_among : List Statement → Statement → ℕ
place_among ss s = option_map_or suc (position (λ z. same_statement z s) ss) 0

-- the places of the first theory's statements among the second one's, by new names
abbrev pub places_by : Renaming → Theory → Theory → List ℕ
places_by by t u = map (λ s. place_among u.statements (renamed_statement (renaming by) s)) t.statements
