use Rattle.larch_traits.proofs.SameTexts.{same_deciding, same_duties, same_flat}
use Rattle.larch_traits.proofs.laws.what_is_decided_is_the_same.Goals as goal

pub returns-clause-deciding : goal.returns-clause-deciding
returns-clause-deciding c = same_deciding

pub returns-clause-flat : goal.returns-clause-flat
returns-clause-flat c = same_flat

pub returns-clause-duties : goal.returns-clause-duties
returns-clause-duties c = same_duties
