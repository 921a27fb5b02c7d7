use Rattle.larch_methods.proofs.Sharing.{supposing_opens}
use Rattle.larch_methods.proofs.boxes.supposing_box.Goals as goal

pub returns-clause-opens : goal.returns-clause-opens
returns-clause-opens c k =
    supposing_opens _ _ _ _ _ _ _ c.new.ensures c.in_ok-hypotheses.ensures c.in_ok-number.ensures.ok k
