use Rattle.larch_import_meaning.specs.Imported.{import_move}
use Rattle.larch_import_meaning.proofs.Ending.{last_rule_stays}
use Rattle.larch_import_meaning.proofs.laws.last_rule_stays.Goals as goal

pub returns : goal.returns
returns c by t u places lines = last_rule_stays (import_move by t u places) lines
