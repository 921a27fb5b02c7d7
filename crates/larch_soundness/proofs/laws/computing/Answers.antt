use Rattle.larch_soundness.proofs.Computing.{holds_so, holds_if, model_so, model_if}
use Rattle.larch_soundness.proofs.laws.computing.Goals as goal

pub returns : goal.returns
returns c =
    record {
      statement = λ fs m s i w. (holds_so m s, holds_if i s w);
      theory = λ t m i w. (model_so i, model_if w);
    }
