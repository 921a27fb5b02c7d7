use Rattle.larch_import_meaning.proofs.Clauses.{moved_ends}
use Rattle.larch_import_meaning.proofs.Moving.{keeps_cited}
use Rattle.larch_import_meaning.specs.Imported.{import_move}
use Rattle.larch_import_meaning.proofs.laws.renamed_ends_without_clause.Goals as goal

pub returns : goal.returns
returns c by t u places s lines x a h =
    moved_ends (import_move by t u places) t u (keeps_cited by t u places x) s lines a h
