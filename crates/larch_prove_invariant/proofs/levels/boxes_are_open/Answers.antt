use Rattle.larch_prove_invariant.proofs.Held.{boxes_held}
use Rattle.larch_prove_invariant.proofs.levels.boxes_are_open.Goals as goal

pub returns : goal.returns
returns c = record {
  theory = λ t s b ks h. (boxes_held t s b ks h).0;
  order = λ t s b ks h. (boxes_held t s b ks h).1.0;
  hypotheses = λ t s b ks h. (boxes_held t s b ks h).1.1;
}
