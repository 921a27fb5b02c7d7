use Rattle.larch_complete.proofs.Found.{pairs_formed}
use Rattle.larch_complete.proofs.testing.pairs_between.Goals as goal

pub returns-clause-formed : goal.returns-clause-formed
returns-clause-formed c =
    pairs_formed _ _ c.push_pairs.new.waiting.items c.new-pairs.ensures.items c.in_ok-push_pairs.ensures.wait
