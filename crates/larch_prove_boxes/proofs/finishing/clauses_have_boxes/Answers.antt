use Rattle.larch_prove_boxes.proofs.Ends.{has_entrance}
use Rattle.larch_prove_boxes.proofs.finishing.clauses_have_boxes.Goals as goal

pub returns : goal.returns
returns c = has_entrance
