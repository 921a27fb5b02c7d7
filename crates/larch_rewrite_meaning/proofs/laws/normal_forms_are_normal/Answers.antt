use Rattle.larch_rewrite_meaning.proofs.Normal.{made_normal, normal_stays}
use Rattle.larch_rewrite_meaning.proofs.laws.normal_forms_are_normal.Goals as goal

pub returns-clause-made : goal.returns-clause-made
returns-clause-made c rules t b u r h = made_normal rules t b u r h

pub returns-clause-stays : goal.returns-clause-stays
returns-clause-stays c rules t b h = normal_stays rules t b h
