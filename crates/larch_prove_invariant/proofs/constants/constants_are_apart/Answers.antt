use Rattle.larch_prove_invariant.proofs.Apart.{innermost_own}
use Rattle.larch_prove_invariant.proofs.BlockConstants.{all_parts, open_parts}
use Rattle.larch_prove_invariant.proofs.Boxes.{through_boxes}
use Rattle.larch_prove_invariant.proofs.Own.{shared_own, subgoals_own}
use Rattle.larch_prove_invariant.proofs.constants.constants_are_apart.Goals as goal

pub returns : goal.returns
returns c = record {
  innermost = innermost_own;
  shared = shared_own;
  subgoals = λ s b d p ks method made shared h e m x.
      subgoals_own s b d p ks method made shared h e (through_boxes b d shared m).1 x;
  parts = λ t s b cs levels ks h.
      (all_parts t s b cs ks h.held h.constants, open_parts t s b cs ks h.held h.constants);
}
