use Rattle.larch_calculus.proofs.DerivedRules.{replaced_right, replaced_left, replaced_inside}
use Rattle.larch_calculus.proofs.laws.replacing.Goals as goal

pub returns : goal.returns
returns c =
    record {
      right = λ t a b u v p h d e. replaced_right p h d e;
      left = λ t a b u v p h d e. replaced_left p h d e;
      inside = λ t a u v p w h e. replaced_inside p w h e;
    }
