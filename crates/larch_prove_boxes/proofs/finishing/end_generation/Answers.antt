use Rattle.larch_prove_invariant.proofs.MethodsUndoing.{found_so}
use Rattle.larch_prove_boxes.proofs.Ends.{generation_finished}
use Rattle.larch_prove_boxes.proofs.finishing.end_generation.Goals as goal

pub returns : goal.returns
returns c s n k x over h alone e w says =
    generation_finished _ s _ _ n _ _ k x _ _ _ over h alone e w says
    (found_so _ _ _ c.in_ok-said.ensures.says c.in-Some.is) (found_so _ _ _ c.in_ok-said.ensures.grows c.in-Some.is)
    (found_so _ _ _ c.in_ok-said.ensures.last c.in-Some.is) (found_so _ _ _ c.in_ok-said.ensures.ends c.in-Some.is)
