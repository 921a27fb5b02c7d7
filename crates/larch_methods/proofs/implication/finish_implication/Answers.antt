use Rattle.larch_methods.proofs.Undoing.{grows_as, made_so, made_then, says_as}
use Rattle.larch_methods.proofs.implication.finish_implication.Goals as goal

pub returns-clause-says : goal.returns-clause-says
returns-clause-says c a p q e h =
    says_as _ _ _ _ c.in_ok-shown.ensures.ok
    (made_so _ _ _ c.write_implication-made.ensures.says c.in_ok-shown.ensures.made a p q e h)

pub returns-clause-grows : goal.returns-clause-grows
returns-clause-grows c a p q e h =
    grows_as a _ _ c.in_ok-shown.ensures.ok
    (made_then _ _ _ c.write_implication-made.ensures.grows c.in_ok-shown.ensures.made a p q e h)
