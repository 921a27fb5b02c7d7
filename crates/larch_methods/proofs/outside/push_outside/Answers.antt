use Rattle.larch_methods.proofs.Undoing.{grows_as, made_so, made_then, says_as}
use Rattle.larch_methods.proofs.outside.push_outside.Goals as goal

pub returns-clause-says : goal.returns-clause-says
returns-clause-says c a i o q k m s =
    says_as _ _ _ _ c.in_ok-said.ensures.ok
    (made_so _ _ _ c.write_outside-made.ensures.says c.in_ok-said.ensures.made a i o q k m s)

pub returns-clause-grows : goal.returns-clause-grows
returns-clause-grows c a i o q k m =
    grows_as a _ _ c.in_ok-said.ensures.ok
    (made_then _ _ _ c.write_outside-made.ensures.grows c.in_ok-said.ensures.made a i o q k m)
