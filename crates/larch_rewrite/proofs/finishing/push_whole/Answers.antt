use Rattle.larch_rewrite.proofs.Lines.{whole_said}
use Rattle.larch_rewrite.proofs.finishing.push_whole.Goals as goal

pub returns-in-None-clause-says : goal.returns-in-None-clause-says
returns-in-None-clause-says c =
    whole_said _ _ _ c.args.way _ c.push_shared_refl.result c.in-None.is c.push_shared_refl.ensures.says
