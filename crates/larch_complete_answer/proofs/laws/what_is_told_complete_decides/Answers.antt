use Rattle.larch_complete_answer.proofs.Deciding.{decided}
use Rattle.larch_complete_answer.proofs.laws.what_is_told_complete_decides.Goals as goal

pub returns : goal.returns
returns c theory limit sorted told =
    decided theory limit (c.complete_rules_decide.ensures theory limit)
    (c.rules_are_derivable.ensures theory limit sorted) told
