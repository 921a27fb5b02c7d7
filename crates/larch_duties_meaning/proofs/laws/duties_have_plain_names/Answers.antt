use Rattle.larch_duties_meaning.proofs.Plain.{duties_plain}
use Rattle.larch_duties_meaning.proofs.laws.duties_have_plain_names.Goals as goal

pub returns : goal.returns
returns c = duties_plain
