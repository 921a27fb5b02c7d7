-- New sorts and numbers as code has them.
use Rattle.larch_verify_law.specs.Moves.{Move}
use Rattle.larch_import_meaning.specs.Imported.{move_by}
use Rattle.larch_import.specs.declared.words.NewWords.{NewWords}

abbrev pub move_of : NewWords → Move
move_of w = move_by w.letters w.renaming.now w.operators w.places.now
