use Rattle.larch_duties.proofs.OwnDuties.{assumed_duty, implied_duty}
use Rattle.larch_duties.proofs.laws.own_claims_are_duties.Goals as goal

pub returns-clause-assumed : goal.returns-clause-assumed
returns-clause-assumed c = assumed_duty

pub returns-clause-implied : goal.returns-clause-implied
returns-clause-implied c = implied_duty
