use Rattle.larch_rewrite.proofs.RuleSets.{belongs_on}
use Rattle.larch_rewrite.proofs.laws.what_is_kept_stays.Goals as goal

pub returns-clause-grown : goal.returns-clause-grown
returns-clause-grown c s u set g h = belongs_on s u set g h
