use Rattle.larch_duties_meaning.proofs.Reached.{duties_depths, duties_elsewhere, duties_reached}
use Rattle.larch_duties_meaning.proofs.laws.what_is_reached_decides_duties.Goals as goal

pub returns-clause-same : goal.returns-clause-same
returns-clause-same c = duties_reached

pub returns-clause-depths : goal.returns-clause-depths
returns-clause-depths c = duties_depths

pub returns-clause-elsewhere : goal.returns-clause-elsewhere
returns-clause-elsewhere c = duties_elsewhere
