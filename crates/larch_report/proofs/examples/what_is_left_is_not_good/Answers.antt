use Rattle.std.proofs.Common.{refl}
use Rattle.larch_report.proofs.examples.what_is_left_is_not_good.Goals as goal

pub returns-clause-left : goal.returns-clause-left
returns-clause-left c = refl

pub returns-clause-refused : goal.returns-clause-refused
returns-clause-refused c = refl

pub returns-clause-proved : goal.returns-clause-proved
returns-clause-proved c = refl
