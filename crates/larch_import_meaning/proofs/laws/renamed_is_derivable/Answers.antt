use Rattle.larch_verify_law.proofs.Accepted.{accepted_derivable}
use Rattle.larch_verify_meaning.specs.RenamingRenaming.{renamed_statement}
use Rattle.larch_import_names.specs.Names.{renaming}
use Rattle.larch_import_meaning.specs.Imported.{import_lines}
use Rattle.larch_import_meaning.proofs.Accepted.{renamed_accepted}
use Rattle.larch_import_meaning.proofs.laws.renamed_is_derivable.Goals as goal

pub returns : goal.returns
returns c by t u places s lines sorted plain x named a =
    accepted_derivable u (renamed_statement (renaming by) s) (import_lines by t u places lines) sorted plain
    (renamed_accepted by t u places s lines x named a)
