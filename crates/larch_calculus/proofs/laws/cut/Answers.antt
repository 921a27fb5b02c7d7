use Rattle.std.proofs.lemmas.List.Elements.{All-contains}
use Rattle.larch_calculus.specs.Derivable.{Derivable}
use Rattle.larch_calculus.proofs.DerivedRules.{cut_statements, cut_theory}
use Rattle.larch_calculus.proofs.laws.cut.Goals as goal

pub returns : goal.returns
returns c =
    record {
      added = λ t ss s w h d. cut_statements ss w h d;
      theory = λ t u s w v fs h d. cut_theory w v fs (λ r i. All-contains (Derivable u) t.statements r h i) d;
    }
