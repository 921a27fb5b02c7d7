use Rattle.larch_prove_invariant.proofs.MethodsUndoing.{found_so}
use Rattle.larch_prove_boxes.proofs.Ends.{partition_finished}
use Rattle.larch_prove_boxes.proofs.finishing.end_partition.Goals as goal

pub returns : goal.returns
returns c s n p k x differ over h alone e w says =
    partition_finished _ s _ _ n p _ _ k x _ _ _ differ over h alone e w says
    (found_so _ _ _ c.in_ok-said.ensures.says c.in-Some.is) (found_so _ _ _ c.in_ok-said.ensures.grows c.in-Some.is)
    (found_so _ _ _ c.in_ok-said.ensures.last c.in-Some.is) (found_so _ _ _ c.in_ok-said.ensures.ends c.in-Some.is)
