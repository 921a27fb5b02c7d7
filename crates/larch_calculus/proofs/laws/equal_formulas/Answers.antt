use Rattle.larch_calculus.proofs.DerivedRules.{equal_by_implications, equal_by_suppositions}
use Rattle.larch_calculus.proofs.laws.equal_formulas.Goals as goal

pub returns : goal.returns
returns c =
    record {
      implications = λ t a b d e. equal_by_implications d e;
      suppositions = λ t a b w x e o y f p d h. equal_by_suppositions w x e o y f p d h;
    }
